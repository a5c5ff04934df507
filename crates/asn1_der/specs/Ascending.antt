-- The order of elements inside sets, from one to the next.
use Rattle.std.specs.Prelude.{◌≡◌, ℕ, ⊤, Bool, false, IsTrue, List, [], ◌∷◌, All}
use Rattle.std.specs.Cmp.Lexicographic.{slice_cmp}
use Rattle.std.specs.List.{flat_map}
use Rattle.std.specs.List.Sorted.{IsSortedBy}
use Rattle.std.specs.Ordering.{is_lt, nat_cmp}
use Rattle.asn1_der_items.specs.declared.content_order.ContentOrder.{ContentOrder}
use Rattle.asn1_der_items.specs.declared.content_order.ContentOrder.TheVariants.{ByTag, ByEncoding}
use Rattle.asn1_der.specs.declared.ascending.Key.{Key}
use Rattle.asn1_der_items.specs.Series.{AreElements, is_one_element, tag_of}
use Rattle.asn1_tags.specs.Tags.{tag_cmp}
use Rattle.asn1_tags.specs.declared.tags.Tag.{Tag}

-- the first element is below the second
abbrev pub precedes : ContentOrder → List ℕ → List ℕ → Bool
precedes ByTag own before = is_lt (tag_cmp (tag_of own) (tag_of before))
precedes ByEncoding own before = is_lt (slice_cmp nat_cmp own before)
precedes _ own before = false

-- each element is at least the one before it
abbrev pub IsAscending : ContentOrder → List (List ℕ) → Type 0
IsAscending content_order elements = IsSortedBy (precedes content_order) elements

-- The key has the tag of its bytes.
abbrev pub HasItsTag : Key → Type 0
HasItsTag key = key.tag ≡ tag_of key.bytes.now

-- no element is below the one before it, and the first is not below this one
abbrev pub AscendFrom : ContentOrder → List ℕ → List (List ℕ) → Type 0
AscendFrom content_order before [] = ⊤
AscendFrom content_order before (own ∷ elements) = (precedes content_order own before ≡ false) × AscendFrom content_order own elements

-- The bytes left are elements in ascending order, after an element of these bytes.
pub record AreAfter (content_order : ContentOrder) (before left : List ℕ) : Type 0 where
  pub elements : List (List ℕ)
  pub each : All (λ e. IsTrue (is_one_element e)) elements
  pub ascend : AscendFrom content_order before elements
  pub are : left ≡ flat_map (λ e. e) elements

-- The walk through the contents is after an element of this tag and these bytes: the contents are elements in ascending order if
-- and only if the bytes left are such elements after it.
pub record IsReached (content_order : ContentOrder) (contents : List ℕ) (tag : Tag) (before left : List ℕ) : Type 0 where
  pub its_tag : tag ≡ tag_of before
  pub ahead : AreElements (IsAscending content_order) contents → AreAfter content_order before left
  pub back : AreAfter content_order before left → AreElements (IsAscending content_order) contents
