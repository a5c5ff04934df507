use Rattle.std.proofs.Common.{◌≡◌, ◌<◌, ◌^◌, false, take, length}
use Rattle.asn1_tags.specs.Tags.{has}
use Rattle.asn1_tags.specs.Trees.{leaves_of, shapes}
use Rattle.asn1_tags.proofs.leaf_positions.+find.Given as goal

-- all leaves so far are passed, and none is the tag
abbrev pub invariant-first_index-loop-node : goal.invariant-first_index-loop-node
invariant-first_index-loop-node l =
    length (leaves_of (shapes l.nodes)) < 2 ^ 64 →
    (l.passed ≡ length (leaves_of (shapes (take l.node-index l.nodes)))) × (has l.tag (leaves_of (shapes (take l.node-index l.nodes))) ≡ false)
