-- The report of names: their parts, their attributes, and the values of these.
use Rattle.std.specs.Cmp.Lexicographic.{pointwise}
use Rattle.std.specs.List.{AllZip}
use Rattle.std.specs.Option.{option_and_then}
use Rattle.std.specs.Prelude.{◌≡◌, ℕ, Bool, List, MatchOption, Option, Some, Vec, nat_eq, reverse}
use Rattle.std.specs.Str.{chars}
use Rattle.std.specs.declared.alloc.Global.{Global}
use Rattle.asn1_certificate_reader.specs.Characters.{directory_characters, visible_characters}
use Rattle.asn1_certificate_reader.specs.Inside.{AreReadAs}
use Rattle.asn1_certificate_reader.specs.Objects.{IsObjectOf}
use Rattle.asn1_certificate_reader.specs.Strings.{ia5_string, numeric_string, printable_octets, same_octets}
use Rattle.asn1_certificate_text.specs.declared.name.Attribute.{Attribute}
use Rattle.asn1_certificate_text.specs.declared.name.AttributeValue.{AttributeValue}
use Rattle.asn1_certificate_text.specs.declared.name.AttributeValue.TheVariants.{Text, Octets}
use Rattle.asn1_certificate_text.specs.declared.name.NamePart.{NamePart}
use Rattle.asn1_certificate_text.specs.declared.name.ShownName.{ShownName}
use Rattle.asn1_model.specs.Meaning.{Meaning}
use Rattle.asn1_rules.specs.Rules.{Format}
use Rattle.asn1_x509.specs.contracts.directory_string.DirectoryStringAsnType.TheImpl.{ghosts as directory_strings}
use Rattle.asn1_x509.specs.contracts.directory_string.DirectoryStringPartialEq.TheImpl.{ghosts as directory_equality}
use Rattle.asn1_x509.specs.declared.attribute_type_and_value.AttributeTypeAndValue.{AttributeTypeAndValue}
use Rattle.asn1_x509.specs.declared.name.Name.{Name}
use Rattle.asn1_x509.specs.declared.name.Name.TheVariants.{RdnSequence}

-- it is a text of these characters
abbrev pub IsTextOf : List ℕ → AttributeValue → Type 0
IsTextOf characters (Text shown) = shown.items ≡ characters
IsTextOf characters (Octets shown) = ⊥

-- it is these octets
abbrev pub IsOctetsOf : List ℕ → AttributeValue → Type 0
IsOctetsOf octets (Text shown) = ⊥
IsOctetsOf octets (Octets shown) = shown.items ≡ octets

module _ (F : Format (Vec ℕ Global)) where
  -- The string that octets are read as, by the meaning and the equality of a type, and its characters, if it has some.
  pub record AreCharactersRead {V : Type 0} (m : Meaning V) (eq : V → V → Bool) (text : V → Option (List ℕ))
      (octets : List ℕ) (found : Option (List ℕ)) : Type 0 where
    pub read : Option V
    pub are_read_as : AreReadAs F m eq octets read
    pub are : found ≡ option_and_then text read

  -- The report of octets by a type of strings: the characters that are read by it, or else `IsElse`.
  pub record IsShownBy {V : Type 0} (m : Meaning V) (eq : V → V → Bool) (text : V → Option (List ℕ)) (IsElse : AttributeValue → Type 0)
      (octets : List ℕ) (shown : AttributeValue) : Type 0 where
    pub found : Option (List ℕ)
    pub characters : AreCharactersRead m eq text octets found
    pub is_shown : MatchOption found (IsElse shown) (λ cs. IsTextOf cs shown)

  -- the characters of a NumericString, and else the octets
  abbrev pub IsNumericOrElse : List ℕ → AttributeValue → Type 0
  IsNumericOrElse octets = IsShownBy numeric_string (pointwise nat_eq) (λ text. Some (chars text)) (IsOctetsOf octets) octets

  -- the characters of an IA5String, as those of a mailbox are (RFC 5280, 4.1.2.6), and else those
  abbrev pub IsAsciiOrElse : List ℕ → AttributeValue → Type 0
  IsAsciiOrElse octets = IsShownBy ia5_string (pointwise nat_eq) (λ text. Some (chars text)) (IsNumericOrElse octets) octets

  -- the characters of a DirectoryString (RFC 5280, 4.1.2.4), and else those
  abbrev pub IsDirectoryOrElse : List ℕ → AttributeValue → Type 0
  IsDirectoryOrElse octets = IsShownBy directory_strings.meaning directory_equality.eq (λ text. Some (directory_characters text)) (IsAsciiOrElse octets) octets

  -- The report of these octets, the value of an attribute: the characters of a PrintableString whose octets are printable characters
  -- of ASCII, inside its alphabet (X.680, 41.4) and outside it, and else those of another string, and else the octets.
  abbrev pub IsValueOf : List ℕ → AttributeValue → Type 0
  IsValueOf octets = IsShownBy printable_octets same_octets (λ string. visible_characters string.value) (IsDirectoryOrElse octets) octets

  -- An attribute of this kind, with its value (RFC 4514, 2.3). A kind without a name here is written by its arcs, and its value then by
  -- its octets (2.4).
  pub record IsAttributeOf (attribute : AttributeTypeAndValue) (shown : Attribute) : Type 0 where
    pub kind : IsObjectOf attribute.type_ shown.kind
    pub value : MatchOption shown.kind.name (IsOctetsOf attribute.value shown.value) (λ name. IsValueOf attribute.value shown.value)

  -- a part of a name, with its attributes in their order (2.2)
  abbrev pub IsPartOf : List AttributeTypeAndValue → NamePart → Type 0
  IsPartOf attributes shown = AllZip IsAttributeOf attributes shown.attributes.items

  -- a name, with its parts from the last to the first (2.1)
  abbrev pub IsNameOf : Name → ShownName → Type 0
  IsNameOf (RdnSequence rdns) shown = AllZip IsPartOf (reverse rdns.items) shown.parts.items
