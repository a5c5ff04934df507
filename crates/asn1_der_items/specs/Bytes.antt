-- The DER of records (X.690): an element for each, and what is inside.
use Rattle.std.specs.Prelude.{◌≡◌, ◌⊎◌, ℕ, ◌≤◌, ◌^◌, false, true, IsTrue, List, [], length}
use Rattle.std.specs.Int.Digits.{AllBelowBase}
use Rattle.asn1_der_items.specs.declared.content_order.ContentOrder.{ContentOrder}
use Rattle.asn1_der_items.specs.declared.content_order.ContentOrder.TheVariants.{AsDefined, ByTag, ByEncoding, Chosen}
use Rattle.asn1_der_items.specs.Contents.{HasContents, HasNoContents}
use Rattle.asn1_der_items.specs.Series.{AreElements, HoldsContents, IsElementOf, AscendByEncoding, AscendByTag, is_one_element}
use Rattle.asn1_items.specs.Items.{IsJoined}
use Rattle.asn1_model.specs.Records.{Head, Record, Records, scalar, scope, open_type, presence_mark, none, more, sequence, set, sequence_of, set_of, explicit_tag, alternative}
use Rattle.asn1_model.specs.Tags.{head_tag}
use Rattle.asn1_tags.specs.declared.tags.Tag.{Tag}

-- the order of the contents of a head
abbrev pub content_order_of : Head → ContentOrder
content_order_of (sequence t table n) = AsDefined
content_order_of (set t table n) = ByTag
content_order_of (sequence_of t c n) = AsDefined
content_order_of (set_of t c n) = ByEncoding
content_order_of (explicit_tag t n) = AsDefined
content_order_of (alternative t c table n) = Chosen

-- The bytes of a record of this tag and order: a constructed element (8.9 to 8.12 and 8.14), with the components of a SET ascending
-- by their tags (10.3) and the elements of a SET OF by their encodings (11.6); or the contents alone, if they are the chosen
-- alternative of a CHOICE, which is one element of the chosen tag (8.13).
abbrev pub HoldsInOrder : ContentOrder → Tag → (List ℕ → Type 0) → List ℕ → Type 0
HoldsInOrder AsDefined t IsInside bytes = HoldsContents IsInside t true bytes
HoldsInOrder ByTag t IsInside bytes = HoldsContents (λ inside. IsInside inside × AreElements AscendByTag inside) t true bytes
HoldsInOrder ByEncoding t IsInside bytes = HoldsContents (λ inside. IsInside inside × AreElements AscendByEncoding inside) t true bytes
HoldsInOrder Chosen t IsInside bytes = IsInside bytes × IsElementOf t bytes

-- The record has this DER. A content is a primitive element under its tag, an open type is its own bytes, which are one element,
-- and a presence mark has no bytes. Names, constraints and tables have none, and so neither has a group, but for its components.
abbrev mutual
  pub HasDer : Record → List ℕ → Type 0
  HasDer (scalar t c n x) bytes = HoldsContents (HasContents x) t false bytes
  HasDer (scope h rs) bytes = HoldsInOrder (content_order_of h) (head_tag h) (HaveDer rs) bytes
  HasDer (open_type n own) bytes = (bytes ≡ own) × IsTrue (is_one_element own)
  HasDer (presence_mark m) bytes = bytes ≡ []

  pub HaveDer : Records → List ℕ → Type 0
  HaveDer none bytes = bytes ≡ []
  HaveDer (more r rs) bytes = IsJoined (HasDer r) (HaveDer rs) bytes

-- The contents are not the chosen alternative of a CHOICE: their bytes are not one element of the chosen tag.
pub record IsNotChosen (t : Tag) (IsInside : List ℕ → Type 0) : Type 0 where
  pub inside : List ℕ
  pub are : IsInside inside
  pub not : ¬ IsElementOf t inside

-- The contents have 2^64 octets or more, a length beyond these definitions.
pub record IsTooLong (IsInside : List ℕ → Type 0) : Type 0 where
  pub inside : List ℕ
  pub are : IsInside inside
  pub are_octets : AllBelowBase 256 inside
  pub long : 2 ^ 64 ≤ length inside

-- The contents of a CHOICE are not one element of the chosen tag, or those of another scope have 2^64 octets or more.
abbrev pub CannotHold : ContentOrder → Tag → (List ℕ → Type 0) → Type 0
CannotHold Chosen t IsInside = IsNotChosen t IsInside
CannotHold _ t IsInside = IsTooLong IsInside

-- There is a record that has no DER, at some depth: a content that has no contents octets, a CHOICE that is not one element of
-- the chosen tag, an open type that is not one element, or what is 2^64 octets or more inside an element.
abbrev mutual
  pub HasNoDer : Record → Type 0
  HasNoDer (scalar t c n x) = HasNoContents x ⊎ IsTooLong (HasContents x)
  HasNoDer (scope h rs) = SomeHasNoDer rs ⊎ CannotHold (content_order_of h) (head_tag h) (HaveDer rs)
  HasNoDer (open_type n own) = is_one_element own ≡ false
  HasNoDer (presence_mark m) = ⊥

  pub SomeHasNoDer : Records → Type 0
  SomeHasNoDer none = ⊥
  SomeHasNoDer (more r rs) = HasNoDer r ⊎ SomeHasNoDer rs
