use Rattle.std.proofs.Common.{refl}
use Rattle.asn1_laws.proofs.ReadingSteps.{in_other_words}
use Rattle.asn1_dec.proofs.impls.scalars.UnitDecode.decode_with_tag_and_constraints.Goals as goal

pub returns-clause-read : goal.returns-clause-read
returns-clause-read g c = λ v n rest outer tagged of_type valid follow.
    in_other_words g.D.Decoder.reader _ _ _ _ _ c.decode_null.result (λ w is. refl) (c.decode_null.ensures.read v n rest outer of_type)
