use Rattle.std.proofs.Common.{List, ℕ, length}
use Rattle.asn1_der.specs.Sorting.{AreJoined}
use Rattle.asn1_der.proofs.Pieces.{AreCutSoFar}
use Rattle.asn1_der.proofs.sorting.split.Given as goal

abbrev pub invariant-loop-left : goal.invariant-loop-left
invariant-loop-left l = (elements : List (List ℕ)) → AreJoined elements l.fn.inside → AreCutSoFar l.order elements l.pieces.items l.left

abbrev pub decreases-loop-left : goal.decreases-loop-left
decreases-loop-left l = length l.left
