use Rattle.std.proofs.Common.{sym}
use Rattle.asn1_slots.proofs.FilledSlots.{filled_if_none, holds_nothing}
use Rattle.asn1_slots.proofs.set_by_index.value_of_slots.Goals as goal

pub returns-in-Some-clause-made : goal.returns-in-Some-clause-made
returns-in-Some-clause-made g c = λ v held. holds_nothing g.S.DecodeSetByIndex.layout c.args.slots v _ (sym c.in-Some.ensures.first) held

pub full-requires : goal.full-requires
full-requires g c = record { are_filled = filled_if_none g.S.DecodeSetByIndex.layout c.args.slots (sym c.in-None.ensures.first) }
