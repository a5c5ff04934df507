use Rattle.asn1_laws.proofs.ReadingChoices.{leaves_kept}
use Rattle.asn1_model.specs.ConstraintSets.{constraint_set}
use Rattle.asn1_dec.proofs.decoder.Decoder.decode_choice_with_tag.Goals as goal

pub returns-clause-after_reading : goal.returns-clause-after_reading
returns-clause-after_reading g c =
    leaves_kept g.Self.Decoder.reader g.T.AsnType.meaning c.args.tag (constraint_set c.args.constraints.now) _ _ _ c.read_choice.ensures.keeps_depth
