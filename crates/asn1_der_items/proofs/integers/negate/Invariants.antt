use Rattle.std.proofs.Common.{◌≡◌, ℕ, ◌+◌, ◌-◌, ◌*◌, ◌^◌, ◌≤◌, ◌<◌, length, drop}
use Rattle.std.specs.Prelude.{slice_index}
use Rattle.asn1_values.specs.Numbers.{magnitude}
use Rattle.asn1_der_items.proofs.integers.negate.Given as goal

abbrev pub invariant-loop-i : goal.invariant-loop-i
invariant-loop-i l = record {
  within : l.i ≤ length l.initial.octets;
  bit : l.carry ≤ 1;
  as_long : length l.octets ≡ length l.initial.octets;
  untouched : (k : ℕ) → k < l.i → slice_index l.octets k ≡ slice_index l.initial.octets k;
  sum : magnitude (drop l.i l.octets) + magnitude (drop l.i l.initial.octets) + l.carry * 256 ^ (length l.initial.octets - l.i) ≡ 256 ^ (length l.initial.octets - l.i);
}

abbrev pub decreases-loop-i : goal.decreases-loop-i
decreases-loop-i l = l.i
