use Rattle.asn1_certificate_input.proofs.departure.departure_of.Goals as goal

pub returns-in-Some-clause-answers : goal.returns-in-Some-clause-answers
returns-in-Some-clause-answers c = λ certificate differs. c.departure_by.ensures c.args.octets.now certificate c.in-Some.ensures.found differs
