-- The PrintableStrings in the names of a certificate with characters outside their alphabet.
use Rattle.std.specs.Prelude.{◌≡◌, ℕ, List, None, Option, Some}
use Rattle.asn1_certificate_input.specs.Positions.{issuer, position_of_value, subject}
use Rattle.asn1_certificate_input.specs.declared.alphabets.NameField.{NameField}
use Rattle.asn1_certificate_input.specs.declared.alphabets.NameField.TheVariants.{Issuer, Subject}
use Rattle.asn1_certificate_input.specs.declared.alphabets.OutsideAlphabet.{OutsideAlphabet}
use Rattle.asn1_certificate_reader.specs.Alphabets.{AnswersAlphabets}
use Rattle.asn1_x509.specs.declared.name.Name.{Name}

-- the index of a component that is a name, in a certificate with a version
abbrev pub index_of_name : NameField → ℕ
index_of_name Issuer = issuer
index_of_name Subject = subject

-- The first PrintableString of this name with characters outside its alphabet. The name is this component of a certificate with these
-- octets, and the position is that to which the path of the value leads in them.
pub record IsFirstOutside (octets : List ℕ) (field : NameField) (name : Name) (o : OutsideAlphabet) : Type 0 where
  pub of_field : o.field ≡ field
  pub position : o.position ≡ position_of_value octets (index_of_name field) o.string.fault
  pub string : AnswersAlphabets name (Some o.string)

-- the answer for a name: none if and only if the characters of each PrintableString are in its alphabet, and else the first that has
-- another
abbrev pub AnswersAlphabet : List ℕ → NameField → Name → Option OutsideAlphabet → Type 0
AnswersAlphabet octets field name None = AnswersAlphabets name None
AnswersAlphabet octets field name (Some o) = IsFirstOutside octets field name o
