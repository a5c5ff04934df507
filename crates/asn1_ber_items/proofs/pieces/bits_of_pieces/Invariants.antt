use Rattle.std.proofs.Common.{length}
use Rattle.asn1_ber_items.proofs.FlatBits.{AreReadBits}
use Rattle.asn1_ber_items.proofs.pieces.bits_of_pieces.Given as goal

abbrev pub invariant-loop-left : goal.invariant-loop-left
invariant-loop-left l = AreReadBits l.contents l.left l.bits.items

abbrev pub decreases-loop-left : goal.decreases-loop-left
decreases-loop-left l = length l.left
