use Rattle.std.proofs.Common.{◌≡◌, ◌≤◌, drop, length}
use Rattle.asn1_ber_items.specs.Progress.{HasCome}
use Rattle.asn1_ber_items.proofs.front_end.find_end.Given as goal

abbrev pub invariant-loop-next : goal.invariant-loop-next
invariant-loop-next l = record {
  within : l.progress.offset ≤ length l.octets;
  left : l.ahead.left.now ≡ drop l.progress.offset l.octets;
  levels : l.ahead.levels ≡ l.progress.levels;
  came : HasCome l.fn.progress l.octets → HasCome l.progress l.octets;
}

abbrev pub decreases-loop-next : goal.decreases-loop-next
decreases-loop-next l = length l.ahead.left.now
