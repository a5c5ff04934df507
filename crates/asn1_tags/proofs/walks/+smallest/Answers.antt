use Rattle.std.proofs.Common.{sym, subst}
use Rattle.asn1_tags.specs.Walks.{IsSmallestIfAny}
use Rattle.asn1_tags.specs.Trees.{leaves, leaves_of, shape, shapes}
use Rattle.std.proofs.Common.{take, ◌+◌}
use Rattle.asn1_tags.proofs.Smallest.{smallest_more}
use Rattle.asn1_tags.proofs.walks.+smallest.Goals as goal

pub smallest_of-loop-node-preserved : goal.smallest_of-loop-node-preserved
smallest_of-loop-node-preserved t c =
    let ts = c.args.nodes.now in
    let i = c.loop-node.node-index in
    let tree = c.node-item.result in
    let here = subst (λ x. IsSmallestIfAny (leaves (shape x)) c.smallest_leaf.result) c.node-item.is c.smallest_leaf.ensures in
    let step = smallest_more ts i tree c.loop-node.smallest c.smallest_leaf.result c.loop-node-test.true c.loop-node.invariant here in
    subst (IsSmallestIfAny (leaves_of (shapes (take (i + 1) ts)))) (sym c.lesser-smallest.ensures) step
