-- The BER of records (X.690, 8), in normal form: an element for each, with definite lengths of the fewest octets, and what is inside.
-- No record tells a component that is its DEFAULT (8.9.3) or bits with names (8.6.2.4), so a DEFAULT that is written, and more or
-- fewer zeros at the end of such bits, are other records.
use Rattle.std.specs.Prelude.{◌≡◌, ◌≢◌, ◌⊎◌, ℕ, ⊤, true, false, Bool, IsTrue, List, []}
use Rattle.asn1_ber_items.specs.Headers.{end_of_contents}
use Rattle.asn1_ber_items.specs.LooseContents.{AreLooseBits, IsTruthValue}
use Rattle.asn1_ber_items.specs.Pieces.{AreOctetPieces, ArePiecesOfBits}
use Rattle.asn1_ber_items.specs.Spellings.{Spells}
use Rattle.asn1_der_items.specs.Bytes.{content_order_of}
use Rattle.asn1_der_items.specs.Contents.{AreUnits, HasContents}
use Rattle.asn1_der_items.specs.Series.{HoldsContents, IsElementOf, is_one_element}
use Rattle.asn1_der_items.specs.declared.content_order.ContentOrder.{ContentOrder}
use Rattle.asn1_der_items.specs.declared.content_order.ContentOrder.TheVariants.{AsDefined, ByTag, ByEncoding, Chosen}
use Rattle.asn1_items.specs.Items.{IsJoined}
use Rattle.asn1_model.specs.Records.{Content, Record, Records, StringKind, scalar, scope, open_type, presence_mark, none, more, held, null, boolean, number, discriminant, arcs, bits, units}
use Rattle.asn1_model.specs.Tags.{head_tag}
use Rattle.asn1_tags.specs.declared.tags.Tag.{Tag}

-- The content has these octets in a primitive element: those of DER, but TRUE is any octet but zero (8.2.2), and the unused bits
-- of a bit string may be any (8.6.2).
abbrev pub HasPrimitive : Content → List ℕ → Type 0
HasPrimitive (boolean b) octets = IsTruthValue b octets
HasPrimitive (bits list) octets = AreLooseBits list octets
HasPrimitive null octets = HasContents null octets
HasPrimitive (number z) octets = HasContents (number z) octets
HasPrimitive (discriminant labels z) octets = HasContents (discriminant labels z) octets
HasPrimitive (arcs list) octets = HasContents (arcs list) octets
HasPrimitive (units kind list) octets = HasContents (units kind list) octets

-- The pieces are those of these bits (8.6.4).
pub record AreBitsInPieces (list : List Bool) (pieces : List ℕ) : Type 0 where
  pub whole : List ℕ
  pub are_pieces : ArePiecesOfBits pieces whole
  pub are_bits : AreLooseBits list whole

-- The pieces are those of the octets of these units (8.7.3 and 8.23).
pub record AreUnitsInPieces (kind : StringKind) (list pieces : List ℕ) : Type 0 where
  pub whole : List ℕ
  pub are_pieces : AreOctetPieces pieces whole
  pub are_units : AreUnits kind list whole

-- The content has these octets in a constructed element: strings alone may be in one, and they are its pieces.
abbrev pub HasConstructed : Content → List ℕ → Type 0
HasConstructed (bits list) octets = AreBitsInPieces list octets
HasConstructed (units kind list) octets = AreUnitsInPieces kind list octets
HasConstructed _ octets = ⊥

-- The bytes of a record of this tag and order: a constructed element (8.9 to 8.12 and 8.14), with the elements of sets in the order
-- of the records; or the contents alone, if they are the chosen alternative of a CHOICE, which is one element of the chosen tag (8.13).
abbrev pub Holds : ContentOrder → Tag → (List ℕ → Type 0) → List ℕ → Type 0
Holds AsDefined t IsInside bytes = HoldsContents IsInside t true bytes
Holds ByTag t IsInside bytes = HoldsContents IsInside t true bytes
Holds ByEncoding t IsInside bytes = HoldsContents IsInside t true bytes
Holds Chosen t IsInside bytes = IsInside bytes × IsElementOf t bytes

-- The record has this BER. A content is a primitive element under its tag, or a constructed one; an open type is its own bytes,
-- which are one element; and a presence mark has no bytes.
abbrev mutual
  pub HasBer : Record → List ℕ → Type 0
  HasBer (scalar t c n x) bytes = HoldsContents (HasPrimitive x) t false bytes ⊎ HoldsContents (HasConstructed x) t true bytes
  HasBer (scope h rs) bytes = Holds (content_order_of h) (head_tag h) (HaveBer rs) bytes
  HasBer (open_type n own) bytes = (bytes ≡ own) × IsTrue (is_one_element own)
  HasBer (presence_mark m) bytes = bytes ≡ []

  pub HaveBer : Records → List ℕ → Type 0
  HaveBer none bytes = bytes ≡ []
  HaveBer (more r rs) bytes = IsJoined (HasBer r) (HaveBer rs) bytes

-- The octets are BER of these records in this order: elements in any spelling, whose normal form is theirs.
pub record AreBerOf (rs : List Record) (octets : List ℕ) : Type 0 where
  pub normal : List ℕ
  pub spell : Spells octets normal []
  pub have : HaveBer (held rs) normal

-- The records can be elements of BER as DER has them: none has tag universal 0, which end-of-contents octets have (8.1.5), and the
-- bytes of an open type are elements in normal form.
abbrev mutual
  pub IsNormalInDer : Record → Type 0
  IsNormalInDer (scalar t c n x) = t ≢ end_of_contents
  IsNormalInDer (scope h rs) = (head_tag h ≢ end_of_contents) × AreNormalInDer rs
  IsNormalInDer (open_type n own) = Spells own own []
  IsNormalInDer (presence_mark m) = ⊤

  pub AreNormalInDer : Records → Type 0
  AreNormalInDer none = ⊤
  AreNormalInDer (more r rs) = IsNormalInDer r × AreNormalInDer rs
