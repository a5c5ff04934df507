use Rattle.std.proofs.Common.{length}
use Rattle.asn1_items.proofs.Twos.{AreOf, ReadsNumbers}
use Rattle.asn1_items.proofs.numbers.read_twos.Given as goal

abbrev pub invariant-loop-left : goal.invariant-loop-left
invariant-loop-left l = record { so_far : ReadsNumbers l.fn.bytes l.numbers.items l.left; of : AreOf l.fn.bytes l.numbers.items l.left }

abbrev pub decreases-loop-left : goal.decreases-loop-left
decreases-loop-left l = length l.left
