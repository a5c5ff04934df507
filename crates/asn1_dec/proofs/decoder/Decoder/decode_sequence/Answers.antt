use Rattle.asn1_components.specs.Components.{is_sequence}
use Rattle.asn1_laws.proofs.ReadingConstructed.{as_constructed}
use Rattle.asn1_laws.proofs.ReadingWhole.{constructed_was_read}
use Rattle.asn1_dec.proofs.decoder.Decoder.decode_sequence.Goals as goal

pub returns-clause-as_meant : goal.returns-clause-as_meant
returns-clause-as_meant g c = λ kind constraints.
    as_constructed is_sequence g.Self.Decoder.reader g.C.AsnType.meaning g.C.FieldTable.components g.C.PartialEq.eq c.args.tag constraints _ _ c.read_sequence.result g.met.C.ConstructedType.agrees kind c.read_sequence.ensures.read

pub returns-clause-only_meant : goal.returns-clause-only_meant
returns-clause-only_meant g c = λ kind constraints.
    constructed_was_read g.Self.Decoder.reader is_sequence g.C.AsnType.meaning g.C.FieldTable.components c.args.tag constraints _ _ c.read_sequence.result g.met.C.ConstructedType.agrees kind c.read_sequence.ensures.only
