use Rattle.asn1_laws.proofs.ReadingSequences.{opened_sequence}
use Rattle.asn1_nesting.proofs.OpenAndClosed.{leaves_failed}
use Rattle.asn1_nesting.proofs.OpenAndClosedSequences.{less_depth, sequence_not_opened}
use Rattle.asn1_nesting.proofs.sequences.open_sequence_at.Goals as goal

pub returns-clause-opened : goal.returns-clause-opened
returns-clause-opened g c =
    opened_sequence g.D.Decoder.reader g.S.FieldTable.components c.args.tag c.args.decoder.now c.open_sequence.new.self c.open_sequence.result c.open_sequence.ensures.read c.open_sequence.ensures.takes_depth

pub returns-clause-deeper : goal.returns-clause-deeper
returns-clause-deeper g c = less_depth g.D.Decoder.reader c.args.decoder.now c.open_sequence.new.self c.open_sequence.result c.open_sequence.ensures.takes_depth.one_less

pub returns-clause-not_read : goal.returns-clause-not_read
returns-clause-not_read g c = λ cs.
    sequence_not_opened g.D.Decoder.reader g.S.PartialEq.eq g.met.S.ConstructedType.agrees c.requires.kind c.args.tag cs c.args.decoder.now c.open_sequence.new.self c.open_sequence.result c.open_sequence.ensures.read

pub returns-clause-after_reading : goal.returns-clause-after_reading
returns-clause-after_reading g c = λ cs.
    leaves_failed g.D.Decoder.reader g.S.AsnType.meaning c.args.tag cs c.args.decoder.now c.open_sequence.new.self c.open_sequence.result c.open_sequence.ensures.takes_depth.has_failed c.open_sequence.ensures.takes_depth.failed_before
