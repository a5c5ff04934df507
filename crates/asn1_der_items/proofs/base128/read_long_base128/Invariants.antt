use Rattle.std.proofs.Common.{◌<◌, length}
use Rattle.asn1_der_items.proofs.CutIdentifiers.{AreBefore}
use Rattle.asn1_der_items.proofs.base128.read_long_base128.Given as goal

abbrev pub invariant-loop-left : goal.invariant-loop-left
invariant-loop-left l = record {
  below : l.number < l.limit;
  same : AreBefore l.number l.left l.fn.bytes;
}

abbrev pub decreases-loop-left : goal.decreases-loop-left
decreases-loop-left l = length l.left
