-- The kinds of items, of contents and of presence marks, and their bytes.
use Rattle.std.specs.Prelude.{◌≡◌, ◌&&◌, ℕ, zero, suc, Bool, nat_le, Option, None, Some, refl}
use Rattle.asn1_items.specs.declared.kinds.ContentKind.{ContentKind}
use Rattle.asn1_items.specs.declared.kinds.ContentKind.TheVariants as content
use Rattle.asn1_items.specs.declared.kinds.ItemKind.{ItemKind}
use Rattle.asn1_items.specs.declared.kinds.ItemKind.TheVariants as item
use Rattle.asn1_items.specs.declared.kinds.MarkKind.{MarkKind}
use Rattle.asn1_items.specs.declared.kinds.MarkKind.TheVariants as mark_kind
use Rattle.asn1_items.specs.declared.kinds.ScopeKind.{ScopeKind}
use Rattle.asn1_items.specs.declared.kinds.ScopeKind.TheVariants.{Sequence, Set, SequenceOf, SetOf, ExplicitTag, Alternative}
use Rattle.asn1_model.specs.Records as model
use Rattle.asn1_model.specs.Records.{Head, PresenceMark, present, absent, group_start, group_absent, group_end, sequence, set, sequence_of, set_of, explicit_tag, alternative, null, boolean, number, discriminant, arcs, bits, units, octet, utf8, visible, general, graphic, ia5, printable, numeric, teletex, bmp}
use Rattle.asn1_types.specs.AnyStrings.{octet_kind}
use Rattle.asn1_types.specs.declared.any_string.OctetKind.{OctetKind}
use Rattle.asn1_types.specs.declared.any_string.OctetKind.TheVariants as octets
use Rattle.asn1_types.specs.declared.any_string.StringKind.{StringKind}
use Rattle.asn1_types.specs.declared.any_string.StringKind.TheVariants as kinds

-- the byte of a kind of item that holds others
abbrev pub scope_byte : ScopeKind → ℕ
scope_byte Sequence = 2
scope_byte Set = 3
scope_byte SequenceOf = 4
scope_byte SetOf = 5
scope_byte ExplicitTag = 6
scope_byte Alternative = 7

-- the byte of a kind of item
abbrev pub item_byte : ItemKind → ℕ
item_byte item.Content = 1
item_byte (item.Scope kind) = scope_byte kind

-- the kind of item of a byte
abbrev pub item_kind_at : ℕ → Option ItemKind
item_kind_at zero = None
item_kind_at (suc zero) = Some item.Content
item_kind_at (suc (suc zero)) = Some (item.Scope Sequence)
item_kind_at (suc (suc (suc zero))) = Some (item.Scope Set)
item_kind_at (suc (suc (suc (suc zero)))) = Some (item.Scope SequenceOf)
item_kind_at (suc (suc (suc (suc (suc zero))))) = Some (item.Scope SetOf)
item_kind_at (suc (suc (suc (suc (suc (suc zero)))))) = Some (item.Scope ExplicitTag)
item_kind_at (suc (suc (suc (suc (suc (suc (suc zero))))))) = Some (item.Scope Alternative)
item_kind_at (suc (suc (suc (suc (suc (suc (suc (suc byte)))))))) = None

-- the kind of what holds others
abbrev pub kind_of_scope : Head → ScopeKind
kind_of_scope (sequence t table n) = Sequence
kind_of_scope (set t table n) = Set
kind_of_scope (sequence_of t c n) = SequenceOf
kind_of_scope (set_of t c n) = SetOf
kind_of_scope (explicit_tag t n) = ExplicitTag
kind_of_scope (alternative t c table n) = Alternative

-- the kind of its item
abbrev pub kind_of : Head → ItemKind
kind_of h = item.Scope (kind_of_scope h)

-- the byte of a kind of content
abbrev pub content_byte : ContentKind → ℕ
content_byte content.Boolean = 1
content_byte content.Number = 2
content_byte content.Discriminant = 3
content_byte content.Null = 4
content_byte content.Arcs = 5
content_byte (content.String (kinds.Octets octets.OctetString)) = 6
content_byte (content.String kinds.Bits) = 7
content_byte (content.String kinds.PackedBits) = 7
content_byte (content.String kinds.NamedBits) = 7
content_byte (content.String (kinds.Octets octets.Utf8)) = 8
content_byte (content.String (kinds.Octets octets.Visible)) = 9
content_byte (content.String (kinds.Octets octets.General)) = 10
content_byte (content.String (kinds.Octets octets.Graphic)) = 11
content_byte (content.String (kinds.Octets octets.Ia5)) = 12
content_byte (content.String (kinds.Octets octets.Printable)) = 13
content_byte (content.String (kinds.Octets octets.Numeric)) = 14
content_byte (content.String kinds.Teletex) = 15
content_byte (content.String kinds.Bmp) = 16

-- a kind of string, as the program names it
abbrev pub string_kind : model.StringKind → StringKind
string_kind octet = kinds.Octets octets.OctetString
string_kind utf8 = kinds.Octets octets.Utf8
string_kind visible = kinds.Octets octets.Visible
string_kind general = kinds.Octets octets.General
string_kind graphic = kinds.Octets octets.Graphic
string_kind ia5 = kinds.Octets octets.Ia5
string_kind printable = kinds.Octets octets.Printable
string_kind numeric = kinds.Octets octets.Numeric
string_kind teletex = kinds.Teletex
string_kind bmp = kinds.Bmp

-- a kind of string whose units are octets has one name in records, and one in the program
pub string_kind-octet_kind : (k : OctetKind) → string_kind (octet_kind k) ≡ kinds.Octets k
string_kind-octet_kind octets.OctetString = refl
string_kind-octet_kind octets.Utf8 = refl
string_kind-octet_kind octets.Visible = refl
string_kind-octet_kind octets.General = refl
string_kind-octet_kind octets.Graphic = refl
string_kind-octet_kind octets.Ia5 = refl
string_kind-octet_kind octets.Printable = refl
string_kind-octet_kind octets.Numeric = refl

-- the kind of a content
abbrev pub content_kind : model.Content → ContentKind
content_kind (boolean b) = content.Boolean
content_kind (number z) = content.Number
content_kind (discriminant labels z) = content.Discriminant
content_kind null = content.Null
content_kind (arcs list) = content.Arcs
content_kind (bits list) = content.String kinds.Bits
content_kind (units kind list) = content.String (string_kind kind)

-- the kind of a presence mark
abbrev pub kind_of_mark : PresenceMark → MarkKind
kind_of_mark (present side t) = mark_kind.Present
kind_of_mark (absent side t) = mark_kind.Absent
kind_of_mark (group_start table) = mark_kind.GroupStart
kind_of_mark (group_absent table) = mark_kind.GroupAbsent
kind_of_mark group_end = mark_kind.GroupEnd

-- the byte of a kind of presence mark in the packed form
abbrev pub mark_kind_byte : MarkKind → ℕ
mark_kind_byte mark_kind.Present = 16
mark_kind_byte mark_kind.Absent = 17
mark_kind_byte mark_kind.GroupStart = 18
mark_kind_byte mark_kind.GroupAbsent = 19
mark_kind_byte mark_kind.GroupEnd = 20

-- The byte is that of a mark: these bytes follow one another.
abbrev pub is_mark_byte : ℕ → Bool
is_mark_byte byte =
    nat_le (mark_kind_byte mark_kind.Present) byte && nat_le byte (mark_kind_byte mark_kind.GroupEnd)
