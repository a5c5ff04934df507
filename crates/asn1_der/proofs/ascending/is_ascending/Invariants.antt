use Rattle.std.proofs.Common.{length}
use Rattle.asn1_der.specs.Ascending.{IsReached}
use Rattle.asn1_der.proofs.ascending.is_ascending.Given as goal

abbrev pub invariant-loop-before : goal.invariant-loop-before
invariant-loop-before l = IsReached l.order l.fn.contents l.before.tag l.before.bytes.now l.left

abbrev pub decreases-loop-before : goal.decreases-loop-before
decreases-loop-before l = length l.left
