use Rattle.asn1_model.specs.ConstraintSets.{unconstrained}
use Rattle.asn1_tags.specs.Names.{name_of}
use Rattle.asn1_laws.proofs.WritingConstructed.{as_constructed}
use Rattle.asn1_enc.specs.SequencesAndSets.{kind_of}
use Rattle.asn1_enc.proofs.constructed.write_constructed.Goals as goal

pub returns-clause-as_meant : goal.returns-clause-as_meant
returns-clause-as_meant g c = λ kind.
    as_constructed (kind_of c.args.kind) g.E.Encoder.writer g.C.AsnType.meaning g.C.FieldTable.components c.args.value.now c.args.tag unconstrained (name_of c.args.name) _ _ c.write_components.result g.met.C.ConstructedType.agrees kind c.write_components.ensures.writes
