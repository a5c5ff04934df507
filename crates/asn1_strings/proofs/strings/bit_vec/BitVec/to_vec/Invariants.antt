use Rattle.std.proofs.Common.{◌≡◌, ◌≤◌, ◌-◌, length, take}
use Rattle.asn1_strings.proofs.strings.bit_vec.BitVec.to_vec.Given as goal

abbrev pub invariant-copied : goal.invariant-copied
invariant-copied l = record {
  within : length l.bits.items ≤ length l.self;
  are : l.bits.items ≡ take (length l.bits.items) l.self;
}

abbrev pub decreases-copied : goal.decreases-copied
decreases-copied l = length l.self - length l.bits.items
