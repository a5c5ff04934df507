-- Octets that have a report, and octets that are refused.
use Rattle.std.proofs.Common.{◌≡◌, ◌≤◌, ℕ, List, Option, None, Some, arith, false, refl, subst, sym, true, inl, inr}
use Rattle.std.proofs.lemmas.Bool.{true≢false}
use Rattle.std.specs.Prelude.{◌≢◌}
use Rattle.asn1_certificate_input.specs.Certificates.{AreDerOf, records_of}
use Rattle.asn1_certificate_input.specs.Departures.{AnswersDeparture, DifferFromDer}
use Rattle.asn1_certificate_input.specs.Refused.{IsRefusalOfDeparture, IsRefusalOfOctets}
use Rattle.asn1_certificate_input.specs.Shown.{IsShown}
use Rattle.asn1_certificate_input.specs.declared.certificate.Warnings.{Warnings}
use Rattle.asn1_certificate_input.specs.declared.departure.Departure.{Departure}
use Rattle.asn1_certificate_input.specs.declared.departure.Departure.TheVariants.{Breaks, Differs, IsNotWritten, IsTooDeep}
use Rattle.asn1_certificate_input.specs.declared.error.InputError.{InputError}
use Rattle.asn1_certificate_input.specs.declared.error.InputError.TheVariants.{Neither, Text, TrailingBytes, NotDer, NoElement, BadComponent, NoCertificate, BadIssuer, BadSubject, BadKeyParameters, BadSignatureParameters, Departs, OtherDer, Memory}
use Rattle.asn1_certificate_input.specs.declared.options.OutputFormat.TheVariants.{Der, Report}
use Rattle.asn1_model.specs.Records.{highest}
use Rattle.asn1_x509.specs.declared.certificate.Certificate.{Certificate}
use Rattle.fanughespu.specs.CertificateReports.{AreGoodCertificate, AreNoCertificate, AreRefused, AreWrittenOtherwise, IsExplained, IsReport, is_explained, report_options}

module _ (octets : List ℕ) where
  -- a departure that a rule or the depth tells is explained
  of_explained : (d : Departure) → is_explained d ≡ true → IsExplained (Some d)
  of_explained (Breaks broken) is = tt
  of_explained (IsTooDeep position) is = tt
  of_explained (Differs position) is = true≢false (sym is)
  of_explained (IsNotWritten error) is = true≢false (sym is)

  -- another one tells how the octets differ from what the certificate is written as
  differ : (certificate : Certificate) (d : Departure) → is_explained d ≡ false → AnswersDeparture octets certificate (Some d) →
      DifferFromDer octets certificate
  differ certificate (Breaks broken) is answers = absurd (true≢false is)
  differ certificate (IsTooDeep position) is answers = absurd (true≢false is)
  differ certificate (Differs position) is answers = record { difference = Differs position; is = answers }
  differ certificate (IsNotWritten error) is answers = record { difference = IsNotWritten error; is = answers }

  module _ (bytes : List ℕ) (w : Warnings) (s : IsShown report_options octets bytes w) where
    -- a report whose departure is explained
    pub has_report : (d : Departure) → w.departure ≡ Some d → is_explained d ≡ true → IsReport octets bytes
    has_report d is explained = record {
      warnings = w;
      shown = s;
      explained = subst IsExplained (sym is) (of_explained d explained);
    }

    -- a certificate that is written otherwise, or not at all
    pub written_otherwise : (d : Departure) → w.departure ≡ Some d → is_explained d ≡ false → AreWrittenOtherwise octets
    written_otherwise d is not = record {
      certificate = s.certificate;
      read = s.read;
      differ = differ s.certificate d not (subst (λ (d : Option Departure). AnswersDeparture octets s.certificate d) is s.departs);
    }

  -- no departure explains octets of no certificate
  not_explained : (certificate : Certificate) (d : Option Departure) → AreNoCertificate octets → AnswersDeparture octets certificate d → IsExplained d → ⊥
  not_explained certificate None none answers explained = none.of_none certificate answers
  not_explained certificate (Some (Breaks broken)) none answers explained = none.keep_rules broken.rule broken.position tt answers
  not_explained certificate (Some (Differs position)) none answers explained = explained
  not_explained certificate (Some (IsNotWritten error)) none answers explained = explained
  not_explained certificate (Some (IsTooDeep position)) none answers explained = none.shallow position answers

  -- octets of no certificate have no report
  pub no_report : (text : List ℕ) → AreNoCertificate octets → IsReport octets text → ⊥
  no_report text none r = not_explained r.shown.certificate r.warnings.departure none r.shown.departs r.explained

  -- the DER of a valid certificate is not refused for its octets
  not_for_octets : (certificate : Certificate) (e : InputError) → AreDerOf octets certificate → highest (records_of certificate) ≤ 64 → e ≢ Memory →
      IsRefusalOfOctets octets e → ⊥
  not_for_octets certificate Neither der shallow not r = r
  not_for_octets certificate (Text error) der shallow not r = r
  not_for_octets certificate (TrailingBytes end) der shallow not r = absurd (omega (arith, shallow, r.0 certificate der))
  not_for_octets certificate (NotDer broken) der shallow not r = absurd (omega (arith, shallow, r.0 certificate der))
  not_for_octets certificate (NoElement position error) der shallow not r = absurd (omega (arith, shallow, r.0 certificate der))
  not_for_octets certificate (BadComponent position name) der shallow not r = absurd (omega (arith, shallow, r.0 certificate der))
  not_for_octets certificate (NoCertificate position error) der shallow not r = absurd (omega (arith, shallow, r.0 certificate der))
  not_for_octets certificate (BadIssuer position fault) der shallow not r = r
  not_for_octets certificate (BadSubject position fault) der shallow not r = r
  not_for_octets certificate (BadKeyParameters position bad) der shallow not r = r
  not_for_octets certificate (BadSignatureParameters position bad) der shallow not r = r
  not_for_octets certificate (Departs departure) der shallow not r = r
  not_for_octets certificate (OtherDer departure) der shallow not r = r
  not_for_octets certificate Memory der shallow not r = not refl

  -- a report is asked for, also of a certificate that departs from its DER
  not_for_departure : (certificate : Certificate) (e : InputError) → IsRefusalOfDeparture report_options octets certificate e → ⊥
  not_for_departure certificate (Departs departure) r = true≢false (sym r.0)
  not_for_departure certificate (OtherDer departure) r = let e : Report ≡ Der = r.0 in cc
  not_for_departure certificate Neither r = r
  not_for_departure certificate (Text error) r = r
  not_for_departure certificate (TrailingBytes end) r = r
  not_for_departure certificate (NotDer broken) r = r
  not_for_departure certificate (NoElement position error) r = r
  not_for_departure certificate (BadComponent position name) r = r
  not_for_departure certificate (NoCertificate position error) r = r
  not_for_departure certificate (BadIssuer position fault) r = r
  not_for_departure certificate (BadSubject position fault) r = r
  not_for_departure certificate (BadKeyParameters position bad) r = r
  not_for_departure certificate (BadSignatureParameters position bad) r = r
  not_for_departure certificate Memory r = r

  -- octets of a good certificate are not refused
  pub not_refused : AreGoodCertificate octets → AreRefused octets → ⊥
  not_refused good r = elim r.refusal [
    | inl refusal ↦ elim refusal [
      | inl of_octets ↦ not_for_octets good.certificate r.error good.der good.shallow r.not_memory of_octets
      | inr refuses ↦ elim refuses.refused [
        | inl of_certificate ↦ r.not_memory (good.good refuses.certificate r.error refuses.read of_certificate)
        | inr of_departure ↦ not_for_departure refuses.certificate r.error of_departure
      ]
    ]
    | inr other ↦ good.as_written other.certificate other.read other.differ
  ]
