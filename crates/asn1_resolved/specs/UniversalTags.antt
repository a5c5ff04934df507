-- Universal tags (X.680, 8.4, table 1).
use Rattle.std.specs.Prelude.{ℕ, Option, None, Some}
use Rattle.asn1_notation.specs.declared.types.ContentsKind.{ContentsKind}
use Rattle.asn1_notation.specs.declared.types.ContentsKind.TheVariants.{Real, RelativeOid, Date, TimeOfDay, DateTime, Duration}
use Rattle.asn1_notation.specs.declared.types.StringKind.{StringKind}
use Rattle.asn1_notation.specs.declared.types.StringKind.TheVariants.{Utf8, Numeric, Printable, Teletex, Videotex, Ia5, Graphic, Visible, General, Universal, Bmp, UtcTime, GeneralizedTime, ObjectDescriptor}
use Rattle.asn1_resolved.specs.declared.types.TypeKind.{TypeKind, Boolean, Null, Integer, BitString, OctetString, ObjectIdentifier, String, Contents, Enumerated, Sequence, Set, Choice, SequenceOf', SetOf', Tagged', Any, Reference}

-- the number of a string of characters, or of a time
abbrev pub string_number : StringKind → ℕ
string_number ObjectDescriptor = 7
string_number Utf8 = 12
string_number Numeric = 18
string_number Printable = 19
string_number Teletex = 20
string_number Videotex = 21
string_number Ia5 = 22
string_number UtcTime = 23
string_number GeneralizedTime = 24
string_number Graphic = 25
string_number Visible = 26
string_number General = 27
string_number Universal = 28
string_number Bmp = 30

-- the number of a type whose values are kept as their contents octets
abbrev pub contents_number : ContentsKind → ℕ
contents_number Real = 9
contents_number RelativeOid = 13
contents_number Date = 31
contents_number TimeOfDay = 32
contents_number DateTime = 33
contents_number Duration = 34

-- the number of a type: a CHOICE and an open type have none, and a reference and a type under a tag have none of their own
abbrev pub universal_number : TypeKind → Option ℕ
universal_number Boolean = Some 1
universal_number (Integer names) = Some 2
universal_number (BitString names) = Some 3
universal_number OctetString = Some 4
universal_number Null = Some 5
universal_number ObjectIdentifier = Some 6
universal_number (Enumerated items) = Some 10
universal_number (Sequence components) = Some 16
universal_number (SequenceOf' at place kind constraints) = Some 16
universal_number (Set components) = Some 17
universal_number (SetOf' at place kind constraints) = Some 17
universal_number (String kind) = Some (string_number kind)
universal_number (Contents kind) = Some (contents_number kind)
universal_number (Choice alternatives) = None
universal_number (Tagged' tag at place kind constraints) = None
universal_number Any = None
universal_number (Reference index) = None
