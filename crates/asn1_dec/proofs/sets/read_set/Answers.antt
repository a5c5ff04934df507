use Rattle.asn1_components.specs.Components.{is_set}
use Rattle.asn1_laws.proofs.ReadingConstructed.{as_constructed}
use Rattle.asn1_laws.proofs.ReadingWhole.{constructed_was_read}
use Rattle.asn1_dec.proofs.sets.read_set.Goals as goal

pub returns-clause-as_meant : goal.returns-clause-as_meant
returns-clause-as_meant g c = λ kind constraints.
    as_constructed is_set g.D.Decoder.reader g.S.AsnType.meaning g.S.FieldTable.components g.S.PartialEq.eq c.args.tag constraints _ _ c.read_components.result g.met.S.ConstructedType.agrees kind c.read_components.ensures.read

pub returns-clause-only_meant : goal.returns-clause-only_meant
returns-clause-only_meant g c = λ kind constraints.
    constructed_was_read g.D.Decoder.reader is_set g.S.AsnType.meaning g.S.FieldTable.components c.args.tag constraints _ _ c.read_components.result g.met.S.ConstructedType.agrees kind c.read_components.ensures.only
