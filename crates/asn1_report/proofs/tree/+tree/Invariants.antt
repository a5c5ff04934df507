use Rattle.std.proofs.Common.{◌*◌, ◌+◌, length}
use Rattle.asn1_report.proofs.TreeReading.{TreesReadSoFar}
use Rattle.asn1_report.proofs.tree.+tree.Given as goal

abbrev pub decreases-read_choice : goal.decreases-read_choice
decreases-read_choice l = 2 * l.depth + 1

abbrev pub decreases-read_tree : goal.decreases-read_tree
decreases-read_tree l = 2 * l.depth

abbrev pub invariant-read_choice-loop-left : goal.invariant-read_choice-loop-left
invariant-read_choice-loop-left l = TreesReadSoFar l.depth l.inside l.text l.initial.flat l.flat

abbrev pub decreases-read_choice-loop-left : goal.decreases-read_choice-loop-left
decreases-read_choice-loop-left l = length l.text
