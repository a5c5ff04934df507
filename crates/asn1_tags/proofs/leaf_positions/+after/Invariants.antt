use Rattle.std.proofs.Common.{◌≡◌, ◌+◌, take, length}
use Rattle.asn1_tags.specs.Trees.{leaves_of, shapes}
use Rattle.asn1_tags.proofs.leaf_positions.+after.Given as goal

-- the leaves so far are skipped
abbrev pub invariant-leaf_after-loop-node : goal.invariant-leaf_after-loop-node
invariant-leaf_after-loop-node l = length (leaves_of (shapes (take l.node-index l.nodes))) + l.left ≡ l.skipped
