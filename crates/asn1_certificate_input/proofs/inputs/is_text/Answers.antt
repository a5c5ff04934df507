use Rattle.std.proofs.Common.{inl, refl}
use Rattle.asn1_certificate_input.proofs.inputs.is_text.Goals as goal

pub returns-then-not-is_pem-clause-no_text : goal.returns-then-not-is_pem-clause-no_text
returns-then-not-is_pem-clause-no_text c = λ _. inl (c.if-not-is_pem.ensures.not_found refl)
