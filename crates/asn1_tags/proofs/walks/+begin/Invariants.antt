use Rattle.std.proofs.Common.{◌≡◌, false, take}
use Rattle.asn1_tags.specs.Trees.{shapes}
use Rattle.asn1_tags.specs.Walks.{any_begins_with}
use Rattle.asn1_tags.proofs.walks.+begin.Given as goal

-- no tree so far can begin with the tag
abbrev pub invariant-any_begins_with-loop-node : goal.invariant-any_begins_with-loop-node
invariant-any_begins_with-loop-node l = any_begins_with l.tag (shapes (take l.node-index l.nodes)) ≡ false
