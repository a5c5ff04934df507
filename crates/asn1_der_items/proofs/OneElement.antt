-- Bytes that are one element.
use Rattle.std.proofs.Common.{◌≡◌, ℕ, Bool, true, false, List, [], ◌∷◌, ◌++◌, append-nil, Option, None, Some, refl, sym, ap, ◌∙◌}
use Rattle.std.specs.Prelude.{◌&&◌}
use Rattle.asn1_tags.proofs.TagListTests.{tag_eq-refl, tag_eq-true}
use Rattle.asn1_tags.specs.Tags.{tag_eq}
use Rattle.asn1_tags.specs.declared.tags.Tag.{Tag}
use Rattle.asn1_items.proofs.Items.{same_front}
use Rattle.asn1_der_items.specs.Elements.{Element, IsElement, element_at}
use Rattle.asn1_der_items.specs.Series.{IsAlone, IsElementOf, ends, is_one_element, is_whole, tag_found, tag_of}
use Rattle.asn1_der_items.proofs.TrailingBytes.{element_at-append}
use Rattle.asn1_der_items.proofs.Found.{element-found}

-- the element of these contents octets, alone
abbrev pub element_of : Tag → Bool → List ℕ → Element
element_of t constructed contents = record { tag = t; constructed = constructed; contents = contents; rest = [] }

-- the bytes of an element are it alone
pub element_alone : (t : Tag) (constructed : Bool) (contents own : List ℕ) → IsElement t constructed contents own → IsAlone (element_of t constructed contents) own
element_alone t constructed contents own is = record {
  at = ap element_at (sym (append-nil own)) ∙ element-found t constructed contents own [] is;
  alone = refl;
}

-- so they are one element, of its tag
pub element_is_one : (t : Tag) (constructed : Bool) (contents own : List ℕ) → IsElement t constructed contents own → is_one_element own ≡ true
element_is_one t constructed contents own is = ap is_whole (element_alone t constructed contents own is).at

pub tag_of_element : (t : Tag) (constructed : Bool) (contents own : List ℕ) → IsElement t constructed contents own → tag_of own ≡ t
tag_of_element t constructed contents own is = ap tag_found (element_alone t constructed contents own is).at

pub one_of_tag : (t : Tag) (own : List ℕ) → is_one_element own ≡ true → tag_of own ≡ t → IsElementOf t own
one_of_tag t own one tag = ap (λ b. b && tag_eq (tag_of own) t) one ∙ ap (λ u. tag_eq u t) tag ∙ tag_eq-refl t

pub element_of_tag : (t : Tag) (constructed : Bool) (contents own : List ℕ) → IsElement t constructed contents own → IsElementOf t own
element_of_tag t constructed contents own is = one_of_tag t own (element_is_one t constructed contents own is) (tag_of_element t constructed contents own is)

both_true : (a b : Bool) → (a && b) ≡ true → (a ≡ true) × (b ≡ true)
both_true true b e = (refl, e)
both_true false b e = cc

pub is_one : (t : Tag) (own : List ℕ) → IsElementOf t own → is_one_element own ≡ true
is_one t own is = (both_true (is_one_element own) (tag_eq (tag_of own) t) is).0

pub tag_is : (t : Tag) (own : List ℕ) → IsElementOf t own → tag_of own ≡ t
tag_is t own is = tag_eq-true (tag_of own) t (both_true (is_one_element own) (tag_eq (tag_of own) t) is).1

-- Bytes that are one element.
pub record One (own : List ℕ) : Type 0 where
  pub element : Element
  pub alone : IsAlone element own

pub nothing_left : (rest : List ℕ) → ends rest ≡ true → rest ≡ []
nothing_left [] e = refl
nothing_left (byte ∷ rest) e = cc

pub one : (own : List ℕ) → is_one_element own ≡ true → One own
one own is = by (element_at own) refl is
  where
    by : (o : Option Element) → element_at own ≡ o → is_whole o ≡ true → One own
    by None at is = cc
    by (Some e) at is = record { element = e; alone = record { at = at; alone = nothing_left e.rest is } }

-- An element alone, and its tag.
pub record OneOf (t : Tag) (own : List ℕ) : Type 0 where
  pub element : Element
  pub alone : IsAlone element own
  pub tag : element.tag ≡ t

pub one_of : (t : Tag) (own : List ℕ) → IsElementOf t own → OneOf t own
one_of t own is =
    let o = one own (is_one t own is) in
    record { element = o.element; alone = o.alone; tag = sym (ap tag_found o.alone.at) ∙ tag_is t own is }

-- It is found whatever follows, and what follows is left.
pub found_behind : (own back : List ℕ) (f : One own) →
    element_at (own ++ back) ≡ Some (record { tag = f.element.tag; constructed = f.element.constructed; contents = f.element.contents; rest = back })
found_behind own back f =
    element_at-append own back f.element f.alone.at
    ∙ ap (λ l. Some (record { tag = f.element.tag; constructed = f.element.constructed; contents = f.element.contents; rest = l ++ back })) f.alone.alone

pub tag_behind : (own back : List ℕ) → is_one_element own ≡ true → tag_of (own ++ back) ≡ tag_of own
tag_behind own back is = let f = one own is in ap tag_found (found_behind own back f) ∙ sym (ap tag_found f.alone.at)

abbrev rest_of : Option Element → List ℕ
rest_of None = []
rest_of (Some e) = e.rest

-- One element does not begin with another.
pub record IsSameSplit (own other back rest : List ℕ) : Type 0 where
  pub first : own ≡ other
  pub later : back ≡ rest

pub one_split : (own other back rest : List ℕ) → is_one_element own ≡ true → is_one_element other ≡ true → own ++ back ≡ other ++ rest → IsSameSplit own other back rest
one_split own other back rest is too joined =
    let later : back ≡ rest = sym (ap rest_of (found_behind own back (one own is))) ∙ ap (λ l. rest_of (element_at l)) joined ∙ ap rest_of (found_behind other rest (one other too)) in
    record { first = same_front own other back (joined ∙ ap (λ l. other ++ l) (sym later)); later = later }

-- One element with trailing bytes that is one element has no trailing bytes.
pub alone : (own back : List ℕ) → is_one_element own ≡ true → is_one_element (own ++ back) ≡ true → back ≡ []
alone own back is whole =
    let f = one (own ++ back) whole in
    sym (ap rest_of (found_behind own back (one own is))) ∙ ap rest_of f.alone.at ∙ f.alone.alone

-- one element has bytes
pub some_bytes : (own : List ℕ) → is_one_element own ≡ true → own ≡ [] → ⊥
some_bytes own is none = let e : is_one_element [] ≡ true = sym (ap is_one_element none) ∙ is in cc
