use Rattle.asn1_components.specs.Components.{is_sequence}
use Rattle.asn1_laws.proofs.ReadingChoices.{leaves_kept}
use Rattle.asn1_laws.proofs.ReadingConstructed.{as_constructed}
use Rattle.asn1_model.specs.ConstraintSets.{constraint_set}
use Rattle.asn1_laws.proofs.ReadingWhole.{constructed_was_read}
use Rattle.asn1_slots.proofs.by_index.decode_sequence_naming_errors.Goals as goal

pub returns-clause-read : goal.returns-clause-read
returns-clause-read g c =
    as_constructed is_sequence g.D.Decoder.reader g.S.AsnType.meaning g.S.FieldTable.components g.S.PartialEq.eq c.args.tag (constraint_set c.args.constraints.now) _ _ c.read_sequence.result g.met.S.ConstructedType.agrees c.requires.kind c.read_sequence.ensures.read

pub returns-clause-after_reading : goal.returns-clause-after_reading
returns-clause-after_reading g c =
    leaves_kept g.D.Decoder.reader g.S.AsnType.meaning c.args.tag (constraint_set c.args.constraints.now) _ _ _ c.read_sequence.ensures.keeps_depth

pub returns-clause-only : goal.returns-clause-only
returns-clause-only g c =
    constructed_was_read g.D.Decoder.reader is_sequence g.S.AsnType.meaning g.S.FieldTable.components c.args.tag (constraint_set c.args.constraints.now) _ _ c.read_sequence.result g.met.S.ConstructedType.agrees c.requires.kind c.read_sequence.ensures.only
