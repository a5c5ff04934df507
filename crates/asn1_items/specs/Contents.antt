-- The content of an item: what its bytes are, for each kind of content.
use Rattle.std.specs.Prelude.{◌≡◌, ℕ, List, [], ◌∷◌, FitsSigned, if◌then◌else◌, refl}
use Rattle.std.proofs.Common.{ap, ◌∙◌}
use Rattle.std.specs.Int.{w64}
use Rattle.asn1_items.specs.Bits.{AreBits}
use Rattle.asn1_items.specs.Kinds.{content_kind, string_kind, string_kind-octet_kind}
use Rattle.asn1_items.specs.Numbers.{AreFours, AreTwos, IsInteger}
use Rattle.asn1_items.specs.declared.content.Content.{Content}
use Rattle.asn1_items.specs.declared.content.Content.TheVariants as own
use Rattle.asn1_items.specs.declared.kinds.ContentKind.TheVariants as own_kind
use Rattle.asn1_model.specs.Records as model
use Rattle.asn1_model.specs.Records.{StringKind, null, boolean, number, discriminant, arcs, bits, units, teletex, bmp}
use Rattle.asn1_model.specs.RecordTables.{no_table}
use Rattle.asn1_types.specs.AnyStrings.{IsMadeAs, IsStringOf, content_kind_of, content_of_str, content_of_string}
use Rattle.asn1_types.specs.declared.any_string.AnyString.{AnyString}
use Rattle.asn1_types.specs.declared.any_string.StringKind as kind
use Rattle.asn1_types.specs.declared.any_string.StringKind.TheVariants as kinds

-- The bytes are these units of a string.
abbrev pub AreUnits : StringKind → List ℕ → List ℕ → Type 0
AreUnits teletex list bytes = AreFours list bytes
AreUnits bmp list bytes = AreTwos list bytes
AreUnits _ list bytes = bytes ≡ list

-- The bytes are this content. An item of an ENUMERATED type is its number.
abbrev pub IsContent : model.Content → List ℕ → Type 0
IsContent null bytes = bytes ≡ []
IsContent (boolean b) bytes = bytes ≡ (if b then 1 else 0) ∷ []
IsContent (number z) bytes = IsInteger z bytes
IsContent (discriminant labels z) bytes = IsInteger z bytes × FitsSigned w64 z
IsContent (arcs list) bytes = AreFours list bytes
IsContent (bits list) bytes = AreBits list bytes
IsContent (units kind list) bytes = AreUnits kind list bytes

-- A content looks like another: they are of one kind, and what are bytes of it are bytes of the other.
pub record LooksLike (x y : model.Content) : Type 0 where
  pub kind : content_kind x ≡ content_kind y
  pub bytes : (own : List ℕ) → IsContent x own → IsContent y own

-- what a content of the program is, without the labels of a type
abbrev pub content_of : Content → model.Content
content_of own.Null = null
content_of (own.Boolean b) = boolean b
content_of (own.Number z) = number z.now
content_of (own.Discriminant z) = discriminant no_table z
content_of (own.Arcs list) = arcs list.now
content_of (own.String string) = content_of_str string

-- a string of a kind has the content kind of strings of it
pub kind_of_string : (k : kind.StringKind) (x : model.Content) → IsStringOf (content_kind_of k) x → content_kind x ≡ own_kind.String (content_kind_of k)
kind_of_string kinds.Bits (bits list) is = refl
kind_of_string kinds.PackedBits (bits list) is = refl
kind_of_string kinds.NamedBits (bits list) is = refl
kind_of_string (kinds.Octets k) (units own list) is = ap (λ s. own_kind.String (string_kind s)) is ∙ ap own_kind.String (string_kind-octet_kind k)
kind_of_string kinds.Bmp (units own list) is = ap (λ s. own_kind.String (string_kind s)) is
kind_of_string kinds.Teletex (units own list) is = ap (λ s. own_kind.String (string_kind s)) is
kind_of_string _ _ is = absurd is

-- The answer is a value of whose content these are the bytes.
pub record IsReadFrom {W V : Type 0} (content : V → model.Content) (Is : W → V → Type 0) (bytes : List ℕ) (w : W) : Type 0 where
  pub value : V
  pub is : Is w value
  pub has_bytes : IsContent (content value) bytes

-- A string was read from the bytes of its content, as strings of this kind are in memory.
pub record IsStringFrom (k : kind.StringKind) (bytes : List ℕ) (string : AnyString) : Type 0 where
  pub is_made : IsMadeAs k string
  pub has_bytes : IsContent (content_of_string string) bytes
