use Rattle.std.proofs.Common.{◌≡◌, ◌∙◌, ℕ, List, Option, None, inl, inr, subst, sym}
use Rattle.std.proofs.lemmas.Result.{err_from_is_err_and}
use Rattle.asn1_certificate_input.specs.Departures.{AnswersDeparture, AnswersDifference, AreDerAsWritten, KeepsAllRules}
use Rattle.asn1_certificate_input.specs.Refused.{IsRefusalOfCertificate}
use Rattle.asn1_certificate_input.specs.Shown.{AreAlphabetWarnings}
use Rattle.asn1_certificate_input.specs.declared.departure.Departure.{Departure}
use Rattle.asn1_x509.specs.declared.certificate.Certificate.{Certificate}
use Rattle.asn1_certificate_input.proofs.certificate.shown_as.Goals as goal

-- the same of the octets of a slice
departs : (slice octets : List ℕ) (certificate : Certificate) (difference departure : Option Departure) → slice ≡ octets →
    (AnswersDifference slice certificate difference → AnswersDeparture slice certificate departure) →
    AnswersDifference octets certificate difference → AnswersDeparture octets certificate departure
departs slice octets certificate difference departure same answers =
    subst (λ own. AnswersDifference own certificate difference → AnswersDeparture own certificate departure) same answers

-- octets without a difference are those that writing makes
as_written : (octets : List ℕ) (certificate : Certificate) (difference : Option Departure) → difference ≡ None → AnswersDifference octets certificate difference →
    AreDerAsWritten octets certificate
as_written octets certificate difference none answers = subst (AnswersDifference octets certificate) none answers

pub returns-in_err-check_open_types-clause-refused : goal.returns-in_err-check_open_types-clause-refused
returns-in_err-check_open_types-clause-refused c =
    let p = err_from_is_err_and c.from_residual.result c.from_residual.ensures.1 in
    rw (p.1, p.2) (record {
      certificate = c.args.read.now.certificate;
      read = c.requires.read;
      refused = inl (subst (λ octets. IsRefusalOfCertificate octets c.args.read.now.certificate c.in_err-check_open_types.field-0.0) c.as_slice.ensures.value
          c.in_err-check_open_types.ensures.refused);
    })

pub returns-in_err-check_departure-clause-refused : goal.returns-in_err-check_departure-clause-refused
returns-in_err-check_departure-clause-refused c =
    let p = err_from_is_err_and c.from_residual-in_err-check_departure.result c.from_residual-in_err-check_departure.ensures.1 in
    rw (p.1, p.2) (record {
      certificate = c.args.read.now.certificate;
      read = c.requires.read;
      refused = inr (c.in_err-check_departure.ensures.refused c.args.octets.now.items c.args.read.now.certificate c.requires.difference
          (departs _ _ _ _ _ c.as_slice-2.ensures.value (c.departure_of-departure.ensures.answers c.args.read.now.certificate) c.requires.difference));
    })

pub returns-in_err-bytes-clause-refused : goal.returns-in_err-bytes-clause-refused
returns-in_err-bytes-clause-refused c =
    let p = err_from_is_err_and c.from_residual-in_err-bytes.result c.from_residual-in_err-bytes.ensures.1 in
    rw (p.1, p.2) (record { certificate = c.args.read.now.certificate; read = c.requires.read; refused = inl tt })

pub returns-clause-shown : goal.returns-clause-shown
returns-clause-shown c = record {
  certificate = c.args.read.now.certificate;
  read = c.requires.read;
  names = c.in_ok-check_open_types.ensures.good;
  are = c.in_ok-bytes.ensures;
  departs = subst (AnswersDeparture c.args.octets.now.items c.args.read.now.certificate) (sym c.warnings_of-warnings.ensures.departure)
      (departs _ _ _ _ _ c.as_slice-2.ensures.value (c.departure_of-departure.ensures.answers c.args.read.now.certificate) c.requires.difference);
  keeps = λ none. subst KeepsAllRules c.as_slice-2.ensures.value (c.departure_of-departure.ensures.keeps (sym c.warnings_of-warnings.ensures.departure ∙ none));
  strict = λ strict. c.warnings_of-warnings.ensures.departure ∙ c.in_ok-check_departure.ensures.strict strict;
  alphabets = subst (λ octets. AreAlphabetWarnings octets c.args.read.now.certificate c.warnings_of-warnings.result) c.as_slice-3.ensures.value c.warnings_of-warnings.ensures.alphabets;
}

pub bytes_of-requires : goal.bytes_of-requires
bytes_of-requires c = λ der. as_written c.args.octets.now.items c.args.read.now.certificate c.args.read.now.difference (c.in_ok-check_departure.ensures.der der) c.requires.difference
