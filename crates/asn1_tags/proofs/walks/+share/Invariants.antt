use Rattle.std.proofs.Common.{◌≡◌, false, take}
use Rattle.asn1_tags.specs.Walks.{have_common_tag}
use Rattle.asn1_tags.specs.Trees.{leaves_of, shapes}
use Rattle.asn1_tags.proofs.walks.+share.Given as goal

-- no tree so far has a leaf of the others
abbrev pub invariant-share_leaf-loop-node : goal.invariant-share_leaf-loop-node
invariant-share_leaf-loop-node l = have_common_tag (leaves_of (shapes (take l.node-index l.nodes))) (leaves_of (shapes l.others)) ≡ false
