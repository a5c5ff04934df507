use Rattle.asn1_items.proofs.OctetsWritten.{OctetsSoFar}
use Rattle.asn1_items.proofs.bits.write_octets.Given as goal

abbrev pub invariant-loop-index : goal.invariant-loop-index
invariant-loop-index l = OctetsSoFar l.fn.bits l.fn.start l.fn.bytes l.bytes l.index
