use Rattle.std.proofs.Common.{take}
use Rattle.asn1_tags.specs.Walks.{IsSmallestIfAny}
use Rattle.asn1_tags.specs.Trees.{leaves_of, shapes}
use Rattle.asn1_tags.proofs.walks.+smallest.Given as goal

-- the smallest leaf of the trees so far
abbrev pub invariant-smallest_of-loop-node : goal.invariant-smallest_of-loop-node
invariant-smallest_of-loop-node l = IsSmallestIfAny (leaves_of (shapes (take l.node-index l.nodes))) l.smallest
