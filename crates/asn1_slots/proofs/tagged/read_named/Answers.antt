use Rattle.asn1_slots.proofs.NamedErrors.{fails_alike}
use Rattle.asn1_slots.proofs.tagged.read_named.Goals as goal

pub returns-in-Err-clause-read : goal.returns-in-Err-clause-read
returns-in-Err-clause-read g c = λ v rest outer can of_type valid at.
    fails_alike _ _ _ _ c.in_field.ensures.same (c.in-Err.ensures.read v rest outer can of_type valid at)
