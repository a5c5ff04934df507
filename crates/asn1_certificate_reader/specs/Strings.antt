-- The types of strings that are read inside a certificate, by their meanings.
use Rattle.std.specs.Cmp.Lexicographic.{pointwise}
use Rattle.std.specs.Prelude.{◌<◌, ◌^◌, ⊤, ℕ, Bool, IsTrue, List, codes, nat_eq}
use Rattle.asn1_model.specs.Kinds.{string_type}
use Rattle.asn1_model.specs.Meaning.{Meaning}
use Rattle.asn1_model.specs.Records.{bits, ia5, numeric, octet, units}
use Rattle.asn1_model.specs.Tags.{universal}
use Rattle.asn1_model.specs.declared.tag.Marker.{Marker}
use Rattle.asn1_values.specs.Alphabets.{is_ia5, is_numeric}
use Rattle.asn1_types.specs.Kinds.{implicit_type}
use Rattle.asn1_types.specs.declared.implicit.Implicit.{Implicit}

-- an OCTET STRING, by its octets (X.680, 23)
abbrev pub octet_string : Meaning (List ℕ)
octet_string = string_type (universal 4) (codes "OCTET_STRING") (λ unit. unit < 2 ^ 8) (units octet)

-- a BIT STRING, by its bits (X.680, 22)
abbrev pub bit_string : Meaning (List Bool)
bit_string = string_type (universal 3) (codes "BIT_STRING") (λ _. ⊤) bits

-- an IA5String, by its characters, which are those of ASCII (X.680, 41)
abbrev pub ia5_string : Meaning (List ℕ)
ia5_string = string_type (universal 22) (codes "IA5String") (λ unit. IsTrue (is_ia5 unit)) (units ia5)

-- a NumericString, by its characters, which are digits and spaces (X.680, 41)
abbrev pub numeric_string : Meaning (List ℕ)
numeric_string = string_type (universal 18) (codes "NumericString") (λ unit. IsTrue (is_numeric unit)) (units numeric)

-- the octets under the tag of a PrintableString, whatever they are
abbrev pub printable_octets : Meaning (Implicit (Marker 19) (List ℕ))
printable_octets = implicit_type (universal 19) (λ string. string.value) octet_string

-- whether two such strings are equal
abbrev pub same_octets : {T : Type 0} → Implicit T (List ℕ) → Implicit T (List ℕ) → Bool
same_octets a b = pointwise nat_eq a.value b.value
