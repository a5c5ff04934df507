use Rattle.std.proofs.Common.{rules}
use Rattle.std.proofs.lemmas.Result.{err_from_is_err_and}
use Rattle.asn1_components.proofs.LabelsOfValues.{has_number}
use Rattle.asn1_components.specs.Enumerations.{number_of}
use Rattle.asn1_dec.proofs.enumerations.read_enumerated.Goals as goal

pub returns-in_err-number-clause-read : goal.returns-in_err-number-clause-read
returns-in_err-number-clause-read g c = λ v n rest outer _ at.
    let p = err_from_is_err_and c.from_residual.result c.from_residual.ensures.1 in
    let e = g.E.EnumeratedItems.enumeration in
    let there = has_number g.E.PartialEq.eq g.met.E.Eq.laws e g.met.E.Enumerated.complete g.met.E.Enumerated.lawful.distinct v in
    rw (p.1, p.2) (c.in_err-number.ensures.read (number_of g.E.PartialEq.eq e v) n rest outer there at)

pub returns-in-Some-clause-read : goal.returns-in-Some-clause-read
returns-in-Some-clause-read g c = λ v n rest outer _ at.
    let e = g.E.EnumeratedItems.enumeration in
    let there = has_number g.E.PartialEq.eq g.met.E.Eq.laws e g.met.E.Enumerated.complete g.met.E.Enumerated.lawful.distinct v in
    let m = c.in_ok-number.ensures.read (number_of g.E.PartialEq.eq e v) n rest outer there at in
    search rules

pub returns-in-None-clause-read : goal.returns-in-None-clause-read
returns-in-None-clause-read g c = λ v n rest outer _ at.
    let e = g.E.EnumeratedItems.enumeration in
    let there = has_number g.E.PartialEq.eq g.met.E.Eq.laws e g.met.E.Enumerated.complete g.met.E.Enumerated.lawful.distinct v in
    let m = c.in_ok-number.ensures.read (number_of g.E.PartialEq.eq e v) n rest outer there at in
    search rules
