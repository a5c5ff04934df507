use Rattle.std.proofs.Common.{subst, sym}
use Rattle.std.specs.Prelude.{Some, codes}
use Rattle.asn1_tags.specs.Names.{name_of}
use Rattle.asn1_values.specs.Bits.{EndsInOne}
use Rattle.asn1_laws.proofs.WritingNames.{named_or}
use Rattle.asn1_laws.proofs.WritingSteps.{in_other_words}
use Rattle.asn1_enc.proofs.impls.strings.NamedBitStringEncode.encode_with_tag_and_constraints.Goals as goal

pub returns : goal.returns
returns g c =
    rw (← c.as_bits.ensures.bits, ← named_or (name_of c.args.name) (Some (codes "BIT_STRING")) (name_of c.or.result) c.or.ensures.named c.or.ensures.empty)
    (in_other_words g.E.Encoder.writer _ _ _ _ (λ _. subst EndsInOne (sym c.as_bits.ensures.bits) c.as_bits.ensures.ends_in_one) c.encode_packed_bits.ensures)
