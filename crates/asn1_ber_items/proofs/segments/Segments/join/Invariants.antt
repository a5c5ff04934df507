use Rattle.std.proofs.Common.{◌≡◌, take}
use Rattle.asn1_ber_items.specs.Segments.{joined, octets_of_each}
use Rattle.asn1_ber_items.proofs.segments.Segments.join.Given as goal

abbrev pub invariant-loop-segment : goal.invariant-loop-segment
invariant-loop-segment l = l.whole.items ≡ joined (octets_of_each (take l.segment-index l.segment-items))
