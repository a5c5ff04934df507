use Rattle.std.proofs.Common.{◌≡◌, ◌<◌, ◌^◌, length, take}
use Rattle.asn1_tags.specs.Trees.{leaves_of, shapes}
use Rattle.asn1_tags.proofs.walks.+count.Given as goal

-- the count is that of the leaves so far, and fits
abbrev pub invariant-leaf_count-loop-node : goal.invariant-leaf_count-loop-node
invariant-leaf_count-loop-node l = (l.count < 2 ^ 64) × (l.count ≡ length (leaves_of (shapes (take l.node-index l.nodes))))
