use Rattle.asn1_slots.proofs.tagged.read_optional.Goals as goal

pub returns-in-Untagged-clause-read : goal.returns-in-Untagged-clause-read
returns-in-Untagged-clause-read g c = rw c.in-Untagged.is (λ v rest outer can of_type valid apart.
    c.decode_optional.ensures.read v g.T.AsnType.meaning.name rest outer can of_type valid (λ _. apart))

pub returns-in-Tagged-clause-read : goal.returns-in-Tagged-clause-read
returns-in-Tagged-clause-read g c = rw c.in-Tagged.is (λ v rest outer can of_type valid apart.
    c.decode_optional_with_tag.ensures.read v g.T.AsnType.meaning.name rest outer can of_type valid (λ _. apart))

pub returns-in-Explicit-clause-read : goal.returns-in-Explicit-clause-read
returns-in-Explicit-clause-read g c = rw c.in-Explicit.is (λ v rest outer can of_type valid apart.
    c.decode_optional_with_explicit_prefix.ensures.read v g.T.AsnType.meaning.name rest outer can.1 of_type valid (λ _. apart))
