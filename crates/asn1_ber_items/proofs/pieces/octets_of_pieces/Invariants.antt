use Rattle.std.proofs.Common.{length}
use Rattle.asn1_ber_items.proofs.FlatOctets.{AreReadOctets}
use Rattle.asn1_ber_items.proofs.pieces.octets_of_pieces.Given as goal

abbrev pub invariant-loop-left : goal.invariant-loop-left
invariant-loop-left l = AreReadOctets l.contents l.left l.octets.items

abbrev pub decreases-loop-left : goal.decreases-loop-left
decreases-loop-left l = length l.left
