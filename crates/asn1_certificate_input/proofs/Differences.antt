-- A certificate departs from DER as its octets differ from what it is written as.
use Rattle.std.proofs.Common.{ℕ, List, Some}
use Rattle.asn1_certificate_input.specs.Departures.{AnswersDeparture, AnswersDifference}
use Rattle.asn1_certificate_input.specs.declared.departure.Departure.{Departure}
use Rattle.asn1_certificate_input.specs.declared.departure.Departure.TheVariants.{Breaks, Differs, IsNotWritten, IsTooDeep}
use Rattle.asn1_x509.specs.declared.certificate.Certificate.{Certificate}

-- a difference is a departure
pub departs_so : (octets : List ℕ) (certificate : Certificate) (d : Departure) → AnswersDifference octets certificate (Some d) →
    AnswersDeparture octets certificate (Some d)
departs_so octets certificate (Breaks broken) is = absurd is
departs_so octets certificate (Differs position) is = is
departs_so octets certificate (IsNotWritten error) is = is
departs_so octets certificate (IsTooDeep position) is = absurd is
