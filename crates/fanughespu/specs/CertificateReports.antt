-- The report of a certificate, or the reason that there is none.
use Rattle.std.specs.Prelude.{◌≡◌, ◌≢◌, ◌⊎◌, ◌≤◌, ⊤, ℕ, Bool, List, None, Option, Some, false, true}
use Rattle.asn1_certificate_input.specs.Certificates.{AreDerOf, IsReadOf, records_of}
use Rattle.asn1_certificate_input.specs.Departures.{AreDerAsWritten, DifferFromDer, KeepsAllRules}
use Rattle.asn1_certificate_input.specs.Refused.{IsRefusal, IsRefusalOfCertificate}
use Rattle.asn1_certificate_input.specs.Shown.{IsShown}
use Rattle.asn1_certificate_input.specs.declared.certificate.Warnings.{Warnings}
use Rattle.asn1_certificate_input.specs.declared.departure.Departure.{Departure}
use Rattle.asn1_certificate_input.specs.declared.departure.Departure.TheVariants.{Breaks, Differs, IsNotWritten, IsTooDeep}
use Rattle.asn1_certificate_input.specs.declared.error.InputError.{InputError}
use Rattle.asn1_certificate_input.specs.declared.error.InputError.TheVariants.{Memory}
use Rattle.asn1_certificate_input.specs.declared.options.Options.{Options}
use Rattle.asn1_certificate_input.specs.declared.options.OutputFormat.TheVariants.{Report}
use Rattle.asn1_certificate_rules.specs.Depths.{LiesDeeper}
use Rattle.asn1_certificate_rules.specs.declared.notation.Part.TheVariants as part
use Rattle.asn1_model.specs.Records.{highest}
use Rattle.asn1_x509.specs.declared.certificate.Certificate.{Certificate}

-- a report, also of a certificate whose octets depart from its DER
abbrev pub report_options : Options
report_options = record { format = Report; is_strict = false; follows = false }

-- The octets are what writing the certificate makes; or they depart from that by a rule of DER that they break, or by elements that lie
-- too deep to be looked at.
abbrev pub IsExplained : Option Departure → Type 0
IsExplained None = ⊤
IsExplained (Some (Breaks broken)) = ⊤
IsExplained (Some (IsTooDeep position)) = ⊤
IsExplained (Some (Differs position)) = ⊥
IsExplained (Some (IsNotWritten error)) = ⊥

-- whether a rule of DER or elements that lie too deep tell why octets depart
abbrev pub is_explained : Departure → Bool
is_explained (Breaks broken) = true
is_explained (IsTooDeep position) = true
is_explained (Differs position) = false
is_explained (IsNotWritten error) = false

-- The text is the report of the certificate that the octets are read as: they are its DER and break no rule of DER, or they break one,
-- or hold elements inside more than 64 others.
pub record IsReport (octets text : List ℕ) : Type 0 where
  pub warnings : Warnings
  pub shown : IsShown report_options octets text warnings
  pub explained : IsExplained warnings.departure

-- The octets were read as a certificate that is written as other octets, or not at all.
pub record AreWrittenOtherwise (octets : List ℕ) : Type 0 where
  pub certificate : Certificate
  pub read : IsReadOf octets certificate
  pub differ : DifferFromDer octets certificate

-- why octets have no report
abbrev pub HaveNoReport : List ℕ → InputError → Type 0
HaveNoReport octets error = IsRefusal report_options octets error ⊎ AreWrittenOtherwise octets

-- The octets are refused as a certificate, for another reason than memory.
pub record AreRefused (octets : List ℕ) : Type 0 where
  pub error : InputError
  pub not_memory : error ≢ Memory
  pub refusal : HaveNoReport octets error

-- a report of the octets, or any message if they are refused
abbrev pub IsReportOrMessage : List ℕ → List ℕ → Type 0
IsReportOrMessage octets text = IsReport octets text ⊎ AreRefused octets

-- The octets break no rule of DER, no elements lie inside more than 64 others, and the octets are the DER of no certificate.
pub record AreNoCertificate (octets : List ℕ) : Type 0 where
  pub keep_rules : KeepsAllRules octets
  pub shallow : (position : ℕ) → ¬ LiesDeeper 64 part.Certificate octets position
  pub of_none : (certificate : Certificate) → ¬ AreDerAsWritten octets certificate

-- The octets are the DER of a valid certificate, with at most 64 nested scopes. No certificate that they are read as has a name or
-- parameters that it cannot have, or is written otherwise.
pub record AreGoodCertificate (octets : List ℕ) : Type 0 where
  pub certificate : Certificate
  pub der : AreDerOf octets certificate
  pub shallow : highest (records_of certificate) ≤ 64
  pub good : (read : Certificate) (error : InputError) → IsReadOf octets read → IsRefusalOfCertificate octets read error → error ≡ Memory
  pub as_written : (read : Certificate) → IsReadOf octets read → ¬ DifferFromDer octets read
