use Rattle.std.proofs.Common.{◌≡◌, ◌≤◌, length, take}
use Rattle.asn1_strings.specs.Bits.{without_trailing_zeros}
use Rattle.asn1_strings.proofs.strings.bit_vec.BitVec.significant_len.Given as goal

abbrev pub invariant-zeros : goal.invariant-zeros
invariant-zeros l = record {
  within : l.count ≤ length l.self;
  left : without_trailing_zeros (take l.count l.self) ≡ without_trailing_zeros l.self;
}

abbrev pub decreases-zeros : goal.decreases-zeros
decreases-zeros l = l.count
