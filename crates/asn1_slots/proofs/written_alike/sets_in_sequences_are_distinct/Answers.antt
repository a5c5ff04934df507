use Rattle.std.proofs.Common.{◌∙◌, sym}
use Rattle.asn1_slots.proofs.DistinctSets.{no_set, type_distinct}
use Rattle.asn1_slots.proofs.written_alike.sets_in_sequences_are_distinct.Goals as goal

pub returns : goal.returns
returns g c =
    type_distinct g.S.FieldTable.components g.S.DecodeByIndex.layout g.S.AsnType.meaning c.requires.laid_out g.met.S.ConstructedType.agrees c.requires.each
    (λ kind. absurd (no_set (sym c.requires.kind ∙ kind)))
