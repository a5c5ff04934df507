use Rattle.std.proofs.Common.{ℕ, ◌+◌, ◌-◌, ◌≤◌, length}
use Rattle.asn1_certificate_rules.specs.Sets.{IsInOrder, IsOutOfOrder}
use Rattle.asn1_certificate_rules.proofs.sets.out_of_order.Given as goal

abbrev pub invariant-loop-first : goal.invariant-loop-first
invariant-loop-first l = record {
  fits : length l.left ≤ length l.contents;
  found : (position : ℕ) → IsOutOfOrder l.left position → IsOutOfOrder l.contents (length l.contents - length l.left + position);
  kept : IsInOrder l.left → IsInOrder l.contents;
}

abbrev pub decreases-loop-first : goal.decreases-loop-first
decreases-loop-first l = length l.left
