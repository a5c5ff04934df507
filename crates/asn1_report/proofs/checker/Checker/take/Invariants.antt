use Rattle.std.proofs.Common.{length}
use Rattle.asn1_report.proofs.Taking.{TakenSoFar}
use Rattle.asn1_report.proofs.checker.Checker.take.Given as goal

abbrev pub invariant-loop-end : goal.invariant-loop-end
invariant-loop-end g l = TakenSoFar l.bytes l.rest (g.W.Write.contents l.initial.writer) (g.W.Write.contents l.writer) l.initial.self l.self

abbrev pub decreases-loop-end : goal.decreases-loop-end
decreases-loop-end g l = length l.rest
