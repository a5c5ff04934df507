use Rattle.std.proofs.Common.{◌≡◌, length}
use Rattle.asn1_contents.specs.Reals as spec
use Rattle.asn1_contents.proofs.real_form.goes_on.Given as goal

-- what is left goes on as all octets did
abbrev pub invariant-loop-left : goal.invariant-loop-left
invariant-loop-left l = spec.goes_on l.digit l.octets ≡ spec.goes_on l.last l.left

abbrev pub decreases-loop-left : goal.decreases-loop-left
decreases-loop-left l = length l.left
