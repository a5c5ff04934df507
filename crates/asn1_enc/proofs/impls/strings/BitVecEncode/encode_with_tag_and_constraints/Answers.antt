use Rattle.std.specs.Prelude.{Some, codes}
use Rattle.asn1_tags.specs.Names.{name_of}
use Rattle.asn1_laws.proofs.WritingNames.{named_or}
use Rattle.asn1_laws.proofs.WritingSteps.{in_other_words}
use Rattle.asn1_enc.proofs.impls.strings.BitVecEncode.encode_with_tag_and_constraints.Goals as goal

pub returns : goal.returns
returns g c =
    rw (← named_or (name_of c.args.name) (Some (codes "BIT_STRING")) (name_of c.or.result) c.or.ensures.named c.or.ensures.empty)
    (in_other_words g.E.Encoder.writer _ _ _ _ (λ _ _ _ _. tt) c.encode_packed_bits.ensures)
