use Rattle.std.proofs.Common.{◌≡◌, ℕ, false, length}
use Rattle.asn1_contents.specs.RelativeOids.{are_numbers}
use Rattle.asn1_contents.proofs.relative_oid.are_numbers.Given as goal

-- what is left goes on as all octets did
abbrev pub invariant-loop-left : goal.invariant-loop-left
invariant-loop-left l = are_numbers false l.octets ≡ are_numbers l.begun l.left

abbrev pub decreases-loop-left : goal.decreases-loop-left
decreases-loop-left l = length l.left
