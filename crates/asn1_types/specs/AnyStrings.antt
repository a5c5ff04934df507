-- The content of a string of any kind in a record.
use Rattle.std.specs.Prelude.{◌≡◌, ⊤, Bool, List, refl}
use Rattle.std.proofs.Common.{sym}
use Rattle.asn1_values.specs.Bits.{EndsInOne, without_trailing_zeros}
use Rattle.asn1_model.specs.Records as model
use Rattle.asn1_types.specs.declared.any_string.OctetKind.{OctetKind}
use Rattle.asn1_types.specs.declared.any_string.OctetKind.TheVariants as octets
use Rattle.asn1_types.specs.declared.any_string.StringKind.{StringKind}
use Rattle.asn1_types.specs.declared.any_string.StringKind.TheVariants as kind
use Rattle.asn1_types.specs.declared.any_string.AnyStr.{AnyStr}
use Rattle.asn1_types.specs.declared.any_string.AnyStr.TheVariants as borrowed
use Rattle.asn1_types.specs.declared.any_string.AnyString.{AnyString}
use Rattle.asn1_types.specs.declared.any_string.AnyString.TheVariants as owned

-- a kind of string whose units are octets, as records name it
abbrev pub octet_kind : OctetKind → model.StringKind
octet_kind octets.OctetString = model.octet
octet_kind octets.Utf8 = model.utf8
octet_kind octets.Visible = model.visible
octet_kind octets.General = model.general
octet_kind octets.Graphic = model.graphic
octet_kind octets.Ia5 = model.ia5
octet_kind octets.Printable = model.printable
octet_kind octets.Numeric = model.numeric

-- the content of a string, apart from where it lies in memory
abbrev pub content_of_str : AnyStr → model.Content
content_of_str (borrowed.Bits list) = model.bits list.now
content_of_str (borrowed.PackedBits list) = model.bits list.now
content_of_str (borrowed.Octets k list) = model.units (octet_kind k) list.now
content_of_str (borrowed.Bmp list) = model.units model.bmp list.now
content_of_str (borrowed.Teletex list) = model.units model.teletex list.now

-- the same of a string that has its own memory
abbrev pub content_of_string : AnyString → model.Content
content_of_string (owned.Bits list) = model.bits list.items
content_of_string (owned.PackedBits list) = model.bits list
content_of_string (owned.Octets k list) = model.units (octet_kind k) list.items
content_of_string (owned.Bmp list) = model.units model.bmp list.items
content_of_string (owned.Teletex list) = model.units model.teletex list.items

-- the kind of the content of a string of this kind
abbrev pub content_kind_of : StringKind → StringKind
content_kind_of kind.PackedBits = kind.Bits
content_kind_of kind.NamedBits = kind.Bits
content_kind_of other = other

-- The string is as strings of this kind are in memory.
abbrev pub IsMadeAs : StringKind → AnyString → Type 0
IsMadeAs kind.Bits (owned.Bits list) = ⊤
IsMadeAs kind.PackedBits (owned.PackedBits list) = ⊤
IsMadeAs kind.NamedBits (owned.PackedBits list) = ⊤
IsMadeAs (kind.Octets k) (owned.Octets own list) = ⊤
IsMadeAs kind.Bmp (owned.Bmp list) = ⊤
IsMadeAs kind.Teletex (owned.Teletex list) = ⊤
IsMadeAs _ _ = ⊥

-- The content is a string of this kind.
abbrev pub IsStringOf : StringKind → model.Content → Type 0
IsStringOf kind.Bits (model.bits list) = ⊤
IsStringOf kind.PackedBits (model.bits list) = ⊤
IsStringOf kind.NamedBits (model.bits list) = EndsInOne list
IsStringOf (kind.Octets k) (model.units own list) = own ≡ octet_kind k
IsStringOf kind.Bmp (model.units own list) = own ≡ model.bmp
IsStringOf kind.Teletex (model.units own list) = own ≡ model.teletex
IsStringOf _ _ = ⊥

-- The content that is read where this one comes: named bits without the 0 bits at their end (X.680, 22.7), any other as it is.
abbrev pub content_read : StringKind → model.Content → model.Content
content_read kind.NamedBits (model.bits list) = model.bits (without_trailing_zeros list)
content_read _ x = x

-- Units that are this content of a kind, and that a codec reads as these.
pub record HasSpelling {U : Type 0} (content : List U → model.Content) (units_read : List U → List U) (x : model.Content) (units : List U) : Type 0 where
  pub spelled : List U
  pub are : content spelled ≡ x
  pub read_as : units_read spelled ≡ units

-- units that are read as they are spell themselves
pub as_they_are : {U : Type 0} (content : List U → model.Content) (x : model.Content) (units : List U) → x ≡ content units → HasSpelling content (λ list. list) x units
as_they_are content x units same = record { spelled = units; are = sym same; read_as = refl }

-- named bits are spelled with any number of 0 bits at their end (X.680, 22.7)
pub with_zeros : (x : model.Content) (units : List Bool) → IsStringOf kind.Bits x → content_read kind.NamedBits x ≡ model.bits units → HasSpelling model.bits without_trailing_zeros x units
with_zeros (model.bits list) units is read = record { spelled = list; are = refl; read_as = cc }
with_zeros model.null units is read = absurd is
with_zeros (model.boolean b) units is read = absurd is
with_zeros (model.number z) units is read = absurd is
with_zeros (model.discriminant labels z) units is read = absurd is
with_zeros (model.arcs list) units is read = absurd is
with_zeros (model.units own list) units is read = absurd is
