use Rattle.std.proofs.Common.{◌≡◌, ◌+◌, ◌-◌, ◌*◌, ◌≤◌, ℕ, false, length, true}
use Rattle.asn1_der_items.specs.Faults.{AreElementsDownTo, IsFirstFault}
use Rattle.fan_calls.specs.Depths.{NestsDeeper}
use Rattle.fan_calls.proofs.walk.+walks.Given as goal

abbrev pub decreases-walk_through : goal.decreases-walk_through
decreases-walk_through l = 2 * l.depth + 1

abbrev pub decreases-walk_inside : goal.decreases-walk_inside
decreases-walk_inside l = 2 * l.depth

abbrev pub invariant-walk_through-loop-left : goal.invariant-walk_through-loop-left
invariant-walk_through-loop-left l = record {
  fits : length l.left ≤ length l.bytes;
  faults : (position : ℕ) → IsFirstFault l.depth l.left position → IsFirstFault l.depth l.bytes (length l.bytes - length l.left + position);
  elements : AreElementsDownTo l.depth l.left → AreElementsDownTo l.depth l.bytes;
  deeper : NestsDeeper l.depth l.left → NestsDeeper l.depth l.bytes;
  found : l.is_deep ≡ true → NestsDeeper l.depth l.bytes;
  ahead : l.is_deep ≡ false → NestsDeeper l.depth l.bytes → NestsDeeper l.depth l.left;
}

abbrev pub decreases-walk_through-loop-left : goal.decreases-walk_through-loop-left
decreases-walk_through-loop-left l = length l.left
