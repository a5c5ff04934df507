use Rattle.asn1_slots.proofs.tagged.read_addition.Goals as goal

pub returns-in-Untagged-clause-read : goal.returns-in-Untagged-clause-read
returns-in-Untagged-clause-read g c = rw c.in-Untagged.is (λ v rest outer can of_type valid apart.
    c.decode_extension_addition.ensures.read v g.T.AsnType.meaning.name rest outer can of_type valid (λ _. apart))

pub returns-in-Tagged-clause-read : goal.returns-in-Tagged-clause-read
returns-in-Tagged-clause-read g c = rw c.in-Tagged.is (λ v rest outer can of_type valid apart.
    c.decode_extension_addition_with_tag.ensures.read v g.T.AsnType.meaning.name rest outer can of_type valid (λ _. apart))

pub returns-in_ok-constraints-in-Explicit-clause-read : goal.returns-in_ok-constraints-in-Explicit-clause-read
returns-in_ok-constraints-in-Explicit-clause-read g c = rw c.in-Explicit.is (λ v rest outer can of_type valid apart.
    let reads = c.decode_extension_addition_with_explicit_tag_and_constraints.ensures.read v g.T.AsnType.meaning.name rest outer can.1 of_type valid (λ _. apart) in
    rw c.in_ok-constraints-in-Explicit.ensures.set at reads)

pub returns-in_ok-constraints-in-Explicit-clause-only : goal.returns-in_ok-constraints-in-Explicit-clause-only
returns-in_ok-constraints-in-Explicit-clause-only g c = rw c.in-Explicit.is
    (rw c.in_ok-constraints-in-Explicit.ensures.set at c.decode_extension_addition_with_explicit_tag_and_constraints.ensures.only)
