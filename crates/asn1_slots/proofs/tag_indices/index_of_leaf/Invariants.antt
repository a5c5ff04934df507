use Rattle.std.proofs.Common.{◌≡◌, ◌+◌, length, take}
use Rattle.asn1_tags.specs.Trees.{leaves_of, shapes}
use Rattle.asn1_slots.proofs.tag_indices.index_of_leaf.Given as goal

abbrev pub invariant-loop-index : goal.invariant-loop-index
invariant-loop-index l = l.position ≡ length (leaves_of (shapes (take l.index l.trees))) + l.left
