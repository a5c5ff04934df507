use Rattle.asn1_components.specs.Components.{is_sequence}
use Rattle.asn1_laws.proofs.ReadingChoices.{leaves_kept}
use Rattle.asn1_laws.proofs.ReadingConstructed.{as_constructed}
use Rattle.asn1_laws.proofs.ReadingWhole.{constructed_was_read}
use Rattle.asn1_nesting.proofs.sequences.close_sequence.Goals as goal

pub returns-clause-read : goal.returns-clause-read
returns-clause-read g c = λ cs old opened is_open reads.
    as_constructed is_sequence g.D.Decoder.reader g.S.AsnType.meaning g.S.FieldTable.components g.S.PartialEq.eq c.args.tag cs old _ c.finish_sequence.result g.met.S.ConstructedType.agrees c.requires.kind
    (c.finish_sequence.ensures.read old opened is_open reads)

pub returns-clause-after_reading : goal.returns-clause-after_reading
returns-clause-after_reading g c = λ cs old opened is_open same.
    leaves_kept g.D.Decoder.reader g.S.AsnType.meaning c.args.tag cs old _ _ (c.finish_sequence.ensures.keeps_depth old opened is_open same)

pub returns-clause-only : goal.returns-clause-only
returns-clause-only g c = λ cs old opened opens reads.
    constructed_was_read g.D.Decoder.reader is_sequence g.S.AsnType.meaning g.S.FieldTable.components c.args.tag cs old _ c.finish_sequence.result g.met.S.ConstructedType.agrees c.requires.kind
    (c.finish_sequence.ensures.only old opened opens reads)
