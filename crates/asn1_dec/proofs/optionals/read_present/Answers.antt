use Rattle.std.proofs.Common.{inl}
use Rattle.asn1_dec.proofs.optionals.read_present.Goals as goal

pub returns-in-Ok-clause-read : goal.returns-in-Ok-clause-read
returns-in-Ok-clause-read g c = λ v n rest outer can of_type valid. c.in-Ok.ensures.read v n rest outer can.1 of_type valid (inl can.0)

pub returns-in-Err-clause-read : goal.returns-in-Err-clause-read
returns-in-Err-clause-read g c = λ v n rest outer can of_type valid at. rw c.refuse.ensures.same (c.in-Err.ensures.read v n rest outer can.1 of_type valid (inl can.0) at)
