use Rattle.asn1_slots.proofs.TreesWithTags.{NoneBefore}
use Rattle.asn1_slots.proofs.tag_indices.first_with_leaf.Given as goal

-- no tree before the index has the tag
abbrev pub invariant-loop-index : goal.invariant-loop-index
invariant-loop-index l = NoneBefore l.trees l.index l.tag
