use Rattle.std.proofs.Common.{length}
use Rattle.asn1_items.proofs.bits.+are_clear.Given as goal

abbrev pub decreases-are_clear : goal.decreases-are_clear
decreases-are_clear l = length l.bits.now
