use Rattle.asn1_slots.proofs.FilledSlots.{AreFilledBefore}
use Rattle.asn1_slots.proofs.set_by_index.first_missing.Given as goal

abbrev pub invariant-loop-index : goal.invariant-loop-index
invariant-loop-index g l = AreFilledBefore g.S.DecodeSetByIndex.layout l.index l.slots
