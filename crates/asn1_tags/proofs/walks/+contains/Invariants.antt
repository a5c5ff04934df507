use Rattle.std.proofs.Common.{◌≡◌, false, take}
use Rattle.asn1_tags.specs.Tags.{has}
use Rattle.asn1_tags.specs.Trees.{leaves_of, shapes}
use Rattle.asn1_tags.proofs.walks.+contains.Given as goal

-- no tree so far has the tag
abbrev pub invariant-have_leaf-loop-node : goal.invariant-have_leaf-loop-node
invariant-have_leaf-loop-node l = has l.tag (leaves_of (shapes (take l.node-index l.nodes))) ≡ false
