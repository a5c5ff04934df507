use Rattle.std.proofs.Common.{ℕ, ◌+◌, ◌-◌, ◌*◌, ◌≤◌, length}
use Rattle.asn1_der_items.specs.Faults.{AreElementsDownTo, IsFirstFault}
use Rattle.asn1_der_items.proofs.fault.+faults.Given as goal

abbrev pub decreases-first_fault : goal.decreases-first_fault
decreases-first_fault l = 2 * l.depth + 1

abbrev pub decreases-fault_inside : goal.decreases-fault_inside
decreases-fault_inside l = 2 * l.depth

abbrev pub invariant-first_fault-loop-left : goal.invariant-first_fault-loop-left
invariant-first_fault-loop-left l = record {
  fits : length l.left ≤ length l.bytes;
  faults : (position : ℕ) → IsFirstFault l.depth l.left position → IsFirstFault l.depth l.bytes (length l.bytes - length l.left + position);
  elements : AreElementsDownTo l.depth l.left → AreElementsDownTo l.depth l.bytes;
}

abbrev pub decreases-first_fault-loop-left : goal.decreases-first_fault-loop-left
decreases-first_fault-loop-left l = length l.left
