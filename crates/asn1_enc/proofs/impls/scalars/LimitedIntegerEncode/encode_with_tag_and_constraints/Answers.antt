use Rattle.std.specs.Prelude.{Some, codes}
use Rattle.asn1_tags.specs.Names.{name_of}
use Rattle.asn1_laws.proofs.WritingNames.{named_or}
use Rattle.asn1_laws.proofs.WritingSteps.{in_other_words}
use Rattle.asn1_enc.proofs.impls.scalars.LimitedIntegerEncode.encode_with_tag_and_constraints.Goals as goal

pub returns : goal.returns
returns g c =
    rw (← named_or (name_of c.args.name) (Some (codes "INTEGER")) (name_of c.or.result) c.or.ensures.named c.or.ensures.empty)
    (in_other_words g.E.Encoder.writer _ _ _ _ (λ _. (c.get.ensures.from_start, c.get.ensures.to_end)) (rw c.get.ensures.same at c.encode_integer.ensures))
