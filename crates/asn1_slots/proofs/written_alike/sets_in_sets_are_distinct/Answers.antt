use Rattle.asn1_slots.proofs.DistinctSets.{type_distinct}
use Rattle.asn1_slots.proofs.written_alike.sets_in_sets_are_distinct.Goals as goal

pub returns : goal.returns
returns g c =
    type_distinct g.S.FieldTable.components g.S.DecodeSetByIndex.layout g.S.AsnType.meaning c.requires.laid_out g.met.S.ConstructedType.agrees c.requires.each (λ kind. c.requires.ready)
