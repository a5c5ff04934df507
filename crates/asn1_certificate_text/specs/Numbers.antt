-- Numbers.
use Rattle.std.specs.Prelude.{ℕ, List, [], ◌∷◌, ◌++◌, codes, if◌then◌else◌}
use Rattle.asn1_values.specs.Text.{integer_text}
use Rattle.asn1_certificate_text.specs.Octets.{octets_text}
use Rattle.asn1_certificate_text.specs.declared.number.OctetNumber.{OctetNumber}
use Rattle.asn1_certificate_text.specs.declared.number.Version.{Version}
use Rattle.asn1_certificate_text.specs.declared.number.Version.TheVariants.{First, Second, Third, Unknown}

-- octets, or 00 where there are none
abbrev pub some_octets_text : List ℕ → List ℕ
some_octets_text [] = codes "00"
some_octets_text (first ∷ rest) = octets_text (first ∷ rest)

-- the octets of a number, after a minus sign where it is negative
abbrev pub octet_number_text : OctetNumber → List ℕ
octet_number_text n = (if n.is_negative then codes "-" else []) ++ some_octets_text n.octets.items

-- a version is one more than its number
abbrev pub version_text : Version → List ℕ
version_text First = codes "1"
version_text Second = codes "2"
version_text Third = codes "3"
version_text (Unknown number) = codes "unknown, number " ++ integer_text number
