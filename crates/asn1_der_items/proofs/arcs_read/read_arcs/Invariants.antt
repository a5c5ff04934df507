use Rattle.std.proofs.Common.{List, ℕ, length}
use Rattle.asn1_der_items.specs.Arcs.{AreArcs}
use Rattle.asn1_der_items.proofs.ReadingArcs.{ArcsRead, IsBegunWith}
use Rattle.asn1_der_items.proofs.arcs_read.read_arcs.Given as goal

abbrev pub invariant-loop-left : goal.invariant-loop-left
invariant-loop-left l = record {
  read : (list : List ℕ) → AreArcs list l.fn.octets → ArcsRead list l.arcs.items l.left;
  only : IsBegunWith l.fn.octets l.arcs.items l.left;
}

abbrev pub decreases-loop-left : goal.decreases-loop-left
decreases-loop-left l = length l.left
