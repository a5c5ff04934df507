-- The output for a certificate.
use Rattle.std.specs.Prelude.{◌≡◌, ◌||◌, ℕ, Bool, List, [], ◌∷◌, None, false, if◌then◌else◌, true}
use Rattle.asn1_certificate_input.specs.Alphabets.{AnswersAlphabet}
use Rattle.asn1_certificate_input.specs.Certificates.{IsReadOf, records_of}
use Rattle.asn1_certificate_input.specs.Departures.{AnswersDeparture, KeepsAllRules}
use Rattle.asn1_certificate_input.specs.declared.alphabets.NameField.TheVariants.{Issuer, Subject}
use Rattle.asn1_certificate_input.specs.declared.certificate.Warnings.{Warnings}
use Rattle.asn1_certificate_input.specs.declared.options.Options.{Options}
use Rattle.asn1_certificate_input.specs.declared.options.OutputFormat.{OutputFormat}
use Rattle.asn1_certificate_input.specs.declared.options.OutputFormat.TheVariants.{Der, Report as AsReport}
use Rattle.asn1_certificate_reader.specs.NameFaults.{AnswersName, value_fault}
use Rattle.asn1_certificate_reader.specs.Reports.{IsReportOf}
use Rattle.asn1_certificate_text.specs.Reports.{report_text}
use Rattle.asn1_certificate_text.specs.declared.pem.PemCertificate.{PemCertificate}
use Rattle.asn1_certificate_text.specs.declared.pem.PemCertificate.TheVariants.{Octets, Refused}
use Rattle.asn1_certificate_text.specs.declared.report.Report.{Report}
use Rattle.asn1_der.specs.Format.{Carries, der_format}
use Rattle.asn1_x509.specs.declared.certificate.Certificate.{Certificate}

-- Each value in the two names of the certificate is one that a name can have.
pub record HasGoodNames (certificate : Certificate) : Type 0 where
  pub issuer : AnswersName value_fault certificate.tbs_certificate.issuer None
  pub subject : AnswersName value_fault certificate.tbs_certificate.subject None

-- the lines of a report of the certificate, whose names and extensions are read as DER
pub record AreLinesOf (certificate : Certificate) (bytes : List ℕ) : Type 0 where
  pub report : Report
  pub of : IsReportOf der_format certificate report
  pub are : bytes ≡ report_text report

-- the bytes are the lines of a report of the certificate, or the octets that it was read of, which are then its DER
abbrev pub AreBytesOf : OutputFormat → List ℕ → Certificate → List ℕ → Type 0
AreBytesOf AsReport octets certificate bytes = AreLinesOf certificate bytes
AreBytesOf Der octets certificate bytes = (bytes ≡ octets) × Carries bytes (records_of certificate)

-- A warning of each name of the certificate with these octets tells the first PrintableString with characters outside its alphabet, and
-- there is none of a name without such a string.
pub record AreAlphabetWarnings (octets : List ℕ) (certificate : Certificate) (warnings : Warnings) : Type 0 where
  pub issuer : AnswersAlphabet octets Issuer certificate.tbs_certificate.issuer warnings.issuer
  pub subject : AnswersAlphabet octets Subject certificate.tbs_certificate.subject warnings.subject

-- The octets were read as a certificate, whose bytes these are, and depart from its DER as a warning says, or not at all, and then break
-- no rule of DER at any depth; and not at all where such certificates are refused. The other warnings are those of its names.
pub record IsShown (options : Options) (octets bytes : List ℕ) (warnings : Warnings) : Type 0 where
  pub certificate : Certificate
  pub read : IsReadOf octets certificate
  pub names : HasGoodNames certificate
  pub are : AreBytesOf options.format octets certificate bytes
  pub departs : AnswersDeparture octets certificate warnings.departure
  pub keeps : warnings.departure ≡ None → KeepsAllRules octets
  pub strict : options.is_strict ≡ true → warnings.departure ≡ None
  pub alphabets : AreAlphabetWarnings octets certificate warnings

-- the same of a certificate of an input, which has octets
abbrev pub IsShownOf : Options → PemCertificate → List ℕ → Warnings → Type 0
IsShownOf options (Octets octets) bytes warnings = IsShown options octets.items bytes warnings
IsShownOf options (Refused error) bytes warnings = ⊥

-- whether there are bytes
abbrev pub are_some : List ℕ → Bool
are_some [] = false
are_some (byte ∷ bytes) = true

-- the same of bytes that were written, in this format, where others were before
abbrev pub is_separated : OutputFormat → Bool → List ℕ → Bool
is_separated AsReport follows bytes = follows || are_some bytes
is_separated Der follows bytes = false

-- what is between bytes that were shown and those of the next certificate: an empty line between two reports
abbrev pub separator : Options → List ℕ → List ℕ
separator options bytes = if is_separated options.format options.follows bytes then 10 ∷ [] else []
