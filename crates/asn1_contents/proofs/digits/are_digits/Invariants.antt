use Rattle.std.proofs.Common.{◌≡◌, length}
use Rattle.asn1_contents.specs.Digits as spec
use Rattle.asn1_contents.proofs.digits.are_digits.Given as goal

-- what is left goes on as all octets did
abbrev pub invariant-loop-left : goal.invariant-loop-left
invariant-loop-left l = spec.are_digits l.octets ≡ spec.are_digits l.left

abbrev pub decreases-loop-left : goal.decreases-loop-left
decreases-loop-left l = length l.left
