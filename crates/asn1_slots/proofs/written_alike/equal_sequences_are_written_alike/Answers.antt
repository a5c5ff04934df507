use Rattle.asn1_slots.proofs.WrittenAlike.{type_alike}
use Rattle.asn1_slots.proofs.written_alike.equal_sequences_are_written_alike.Goals as goal

pub returns : goal.returns
returns g c =
    type_alike g.S.FieldTable.components g.S.DecodeByIndex.layout g.S.AsnType.meaning g.S.PartialEq.eq c.requires.laid_out g.met.S.ConstructedType.agrees c.requires.each c.requires.compared
