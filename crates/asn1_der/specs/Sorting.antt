-- Elements in the orders that DER has inside sets.
use Rattle.std.specs.Prelude.{◌≡◌, ℕ, IsPermutation, IsTrue, List, None, Option, Some, Vec, All, map}
use Rattle.std.specs.Cmp.Lexicographic.{slice_cmp}
use Rattle.std.specs.declared.alloc.Global.{Global}
use Rattle.std.specs.declared.cmp.Ordering.{Ordering}
use Rattle.std.specs.List.{flat_map}
use Rattle.std.specs.Ordering.{nat_cmp, ordering_then}
use Rattle.asn1_der.specs.declared.sorting.Order.{Order}
use Rattle.asn1_der.specs.declared.sorting.Order.TheVariants.{Tags, Encodings}
use Rattle.asn1_der.specs.declared.sorting.Piece.{Piece}
use Rattle.asn1_der.specs.declared.sorting.Cut.{Cut}
use Rattle.asn1_der_items.specs.Series.{AscendByEncoding, AscendByTag, is_one_element, tag_of}
use Rattle.asn1_tags.specs.Tags.{tag_cmp}
use Rattle.asn1_tags.specs.declared.classes.Class.TheVariants.{Universal}
use Rattle.asn1_tags.specs.declared.tags.Tag.{Tag}

-- The bytes consist of these elements, one after another.
pub record AreJoined (elements : List (List ℕ)) (bytes : List ℕ) : Type 0 where
  pub each : All (λ e. IsTrue (is_one_element e)) elements
  pub are : bytes ≡ flat_map (λ e. e) elements

-- The elements are in ascending order, by their tags or as lists of octets.
abbrev pub IsAscendingBy : Order → List (List ℕ) → Type 0
IsAscendingBy Tags elements = AscendByTag elements
IsAscendingBy Encodings elements = AscendByEncoding elements

-- the tag by which an element of this tag comes before others: of a SET OF one and the same
abbrev pub key_of : Order → Tag → Tag
key_of Tags t = t
key_of Encodings t = record { class = Universal; value = 5 }

-- These are the elements, each with its key.
pub record ArePieces (order : Order) (elements : List (List ℕ)) (pieces : List Piece) : Type 0 where
  pub are : map (λ p. p.bytes.now) pieces ≡ elements
  pub keys : All (λ p. p.key ≡ key_of order (tag_of p.bytes.now)) pieces

-- This element was cut off, in front of these bytes.
pub record IsCutAs (order : Order) (own back : List ℕ) (cut : Cut) : Type 0 where
  pub bytes : cut.piece.bytes.now ≡ own
  pub rest : cut.rest.now ≡ back
  pub key : cut.piece.key ≡ key_of order (tag_of own)

-- how pieces compare: by their keys, and then by their bytes
abbrev pub piece_cmp : Piece → Piece → Ordering
piece_cmp p q = ordering_then (tag_cmp p.key q.key) (slice_cmp nat_cmp p.bytes.now q.bytes.now)

-- the bytes that were made, or these where none were
abbrev pub items_or : List ℕ → Option (Vec ℕ Global) → List ℕ
items_or bytes None = bytes
items_or bytes (Some made) = made.items

-- The bytes consist of these elements, which have been sorted.
pub record AreSorted (order : Order) (elements : List (List ℕ)) (bytes : List ℕ) : Type 0 where
  pub sorted : List (List ℕ)
  pub moved : IsPermutation elements sorted
  pub in_order : IsAscendingBy order sorted
  pub are : bytes ≡ flat_map (λ e. e) sorted
