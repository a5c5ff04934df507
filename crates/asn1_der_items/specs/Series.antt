-- One element after another, and the orders in which DER has them inside sets.
use Rattle.std.specs.Prelude.{◌≡◌, ℕ, Bool, false, true, ◌&&◌, Option, None, Some, IsTrue, IsSorted, IsSortedByKey, List, [], ◌∷◌, All}
use Rattle.std.specs.Cmp.Lexicographic.{slice_cmp}
use Rattle.std.specs.List.{flat_map}
use Rattle.std.specs.Int.Digits.{AllBelowBase}
use Rattle.std.specs.Ordering.{nat_cmp}
use Rattle.asn1_model.specs.Tags.{CHOICE}
use Rattle.asn1_tags.specs.Tags.{tag_cmp, tag_eq}
use Rattle.asn1_tags.specs.declared.tags.Tag.{Tag}
use Rattle.asn1_der_items.specs.Elements.{Element, IsElement, element_at}

-- nothing follows the element
abbrev pub ends : List ℕ → Bool
ends [] = true
ends (byte ∷ rest) = false

-- an element was found, and nothing follows it
abbrev pub is_whole : Option Element → Bool
is_whole (Some e) = ends e.rest
is_whole None = false

-- the bytes are one element
abbrev pub is_one_element : List ℕ → Bool
is_one_element bytes = is_whole (element_at bytes)

-- The bytes are this element alone.
pub record IsAlone (e : Element) (own : List ℕ) : Type 0 where
  pub at : element_at own ≡ Some e
  pub alone : e.rest ≡ []

-- the tag of an element, or the CHOICE marker tag where there is none
abbrev pub tag_found : Option Element → Tag
tag_found (Some e) = e.tag
tag_found None = CHOICE

-- the tag of the element with which the bytes begin
abbrev pub tag_of : List ℕ → Tag
tag_of bytes = tag_found (element_at bytes)

-- The bytes are one element of this tag.
abbrev pub IsElementOf : Tag → List ℕ → Type 0
IsElementOf t bytes = IsTrue (is_one_element bytes && tag_eq (tag_of bytes) t)

-- An element with contents octets of which this holds.
pub record HoldsContents (AreContents : List ℕ → Type 0) (t : Tag) (constructed : Bool) (bytes : List ℕ) : Type 0 where
  pub contents : List ℕ
  pub are : AreContents contents
  pub element : IsElement t constructed contents bytes

-- The bytes are elements, one after another, in an order of which this holds.
pub record AreElements (AreInOrder : List (List ℕ) → Type 0) (bytes : List ℕ) : Type 0 where
  pub elements : List (List ℕ)
  pub each : All (λ e. IsTrue (is_one_element e)) elements
  pub order : AreInOrder elements
  pub are : bytes ≡ flat_map (λ e. e) elements

-- They are in ascending order by their tags, in the canonical order of tags (10.3, and X.680, 8.6).
abbrev pub AscendByTag : List (List ℕ) → Type 0
AscendByTag elements = IsSortedByKey tag_of tag_cmp elements

-- They are in ascending order as lists of octets (11.6). No element begins with another, so none has to be filled up to be compared.
abbrev pub AscendByEncoding : List (List ℕ) → Type 0
AscendByEncoding elements = IsSorted (slice_cmp nat_cmp) elements

-- Octets of which this holds.
pub record HasOctets (Are : List ℕ → Type 0) : Type 0 where
  pub octets : List ℕ
  pub are : Are octets
  pub are_octets : AllBelowBase 256 octets
