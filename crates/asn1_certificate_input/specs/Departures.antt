-- How the octets of a certificate depart from its DER.
use Rattle.std.specs.Prelude.{ℕ, List, None, Option, Some}
use Rattle.asn1_certificate_input.specs.Certificates.{IsReadOf, records_of}
use Rattle.asn1_certificate_input.specs.declared.departure.Departure.{Departure}
use Rattle.asn1_certificate_input.specs.declared.departure.Departure.TheVariants.{Breaks, Differs, IsNotWritten, IsTooDeep}
use Rattle.asn1_certificate_rules.specs.Departures.{Departs, KeepsRules}
use Rattle.asn1_certificate_rules.specs.Depths.{LiesDeeper}
use Rattle.asn1_certificate_rules.specs.declared.notation.Part.TheVariants as part
use Rattle.asn1_certificate_rules.specs.declared.rule.RuleSet.TheVariants.{All}
use Rattle.asn1_der.specs.Format.{der_format}
use Rattle.asn1_laws.specs.declared.encode_error.EncodeError.{EncodeError}
use Rattle.asn1_rules.specs.CanonicalReading.{IsFirstDifference, IsWrittenAs}
use Rattle.asn1_rules.specs.Rules as rules
use Rattle.asn1_x509.specs.contracts.certificate.CertificateAsnType.TheImpl.{ghosts as certificates}
use Rattle.asn1_x509.specs.declared.certificate.Certificate.{Certificate}

-- The octets are those that writing this certificate makes, nested in 64 scopes at most.
abbrev pub AreDerAsWritten : List ℕ → Certificate → Type 0
AreDerAsWritten octets certificate = IsWrittenAs der_format certificates.meaning 64 certificate octets

-- A certificate that the octets are read as is written as other octets, which first differ from these at this position.
pub record IsWrittenOtherwise (octets : List ℕ) (position : ℕ) : Type 0 where
  pub certificate : Certificate
  pub written : List ℕ
  pub read : IsReadOf octets certificate
  pub as_written : AreDerAsWritten written certificate
  pub first : IsFirstDifference octets written position

-- A certificate that the octets are read as is not written.
pub record IsReadAndNotWritten (octets : List ℕ) (error : EncodeError) : Type 0 where
  pub certificate : Certificate
  pub read : IsReadOf octets certificate
  pub not_written : rules.IsNotWritten der_format (records_of certificate) 64 error

-- how octets differ from what a certificate is written as, if they do
abbrev pub AnswersDifference : List ℕ → Certificate → Option Departure → Type 0
AnswersDifference octets certificate None = AreDerAsWritten octets certificate
AnswersDifference octets certificate (Some (Breaks broken)) = ⊥
AnswersDifference octets certificate (Some (Differs position)) = IsWrittenOtherwise octets position
AnswersDifference octets certificate (Some (IsNotWritten error)) = IsReadAndNotWritten octets error
AnswersDifference octets certificate (Some (IsTooDeep position)) = ⊥

-- The same, or a rule of DER that the octets break where the notation of a certificate has this part, or the position of elements
-- that lie inside more than 64 others.
abbrev pub AnswersDeparture : List ℕ → Certificate → Option Departure → Type 0
AnswersDeparture octets certificate (Some (Breaks broken)) = Departs part.Certificate octets broken.rule broken.position
AnswersDeparture octets certificate (Some (IsTooDeep position)) = LiesDeeper 64 part.Certificate octets position
AnswersDeparture octets certificate difference = AnswersDifference octets certificate difference

-- The octets are not those that writing the certificate makes.
pub record DifferFromDer (octets : List ℕ) (certificate : Certificate) : Type 0 where
  pub difference : Departure
  pub is : AnswersDifference octets certificate (Some difference)

-- The octets break no rule of DER where the notation of a certificate has the parts of one, at any depth.
abbrev pub KeepsAllRules : List ℕ → Type 0
KeepsAllRules octets = KeepsRules All part.Certificate octets
