use Rattle.std.proofs.Common.{◌≡◌, ℕ, ◌≤◌, List, ◌++◌, length, drop}
use Rattle.asn1_der_items.proofs.lengths.insert_octets.Given as goal

abbrev pub invariant-loop-left : goal.invariant-loop-left
invariant-loop-left l = record {
  within : l.left ≤ length l.octets;
  room : l.position ≤ length l.bytes.items;
  spliced : (before after : List ℕ) → l.initial.bytes.items ≡ before ++ after → l.position ≡ length before → l.bytes.items ≡ before ++ (drop l.left l.octets ++ after);
}

abbrev pub decreases-loop-left : goal.decreases-loop-left
decreases-loop-left l = l.left
