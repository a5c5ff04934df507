use Rattle.std.proofs.lemmas.Result.{err_from_is_err_and}
use Rattle.asn1_slots.proofs.calls.group.Goals as goal

pub returns-in_err-slot-clause-read : goal.returns-in_err-slot-clause-read
returns-in_err-slot-clause-read g c =
    let p = err_from_is_err_and c.from_residual.result c.from_residual.ensures.1 in
    record { reads = λ v rest outer can of_type valid apart at. rw (p.1, p.2) (c.in_err-slot.ensures.read v rest outer can of_type valid apart at); exactly = rw p.1 tt }

pub returns-clause-read : goal.returns-clause-read
returns-clause-read g c = record { reads = λ v rest outer can of_type valid apart at. c.in_ok-slot.ensures.read v rest outer can of_type valid apart at; exactly = c.in_ok-slot.ensures.only }
