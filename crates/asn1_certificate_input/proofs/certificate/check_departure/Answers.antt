use Rattle.std.proofs.Common.{subst}
use Rattle.asn1_certificate_input.specs.Departures.{AnswersDeparture}
use Rattle.asn1_certificate_input.proofs.certificate.check_departure.Goals as goal

pub returns-in-Some-2-clause-refused : goal.returns-in-Some-2-clause-refused
returns-in-Some-2-clause-refused c = λ octets certificate differs departs.
    c.check_difference.ensures.refused octets certificate differs (subst (AnswersDeparture octets certificate) c.in-Some-2.is departs)
