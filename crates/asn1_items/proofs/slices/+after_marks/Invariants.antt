use Rattle.std.proofs.Common.{length}
use Rattle.asn1_items.proofs.slices.+after_marks.Given as goal

abbrev pub decreases-after_marks : goal.decreases-after_marks
decreases-after_marks l = length l.bytes.now
