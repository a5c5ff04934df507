use Rattle.std.proofs.Common.{arith}
use Rattle.std.proofs.lemmas.Grind.{common_steps}
use Rattle.asn1_tags.proofs.Leaves.{meet_more}
use Rattle.asn1_tags.specs.Trees.{leaves_of, shapes}
use Rattle.asn1_tags.proofs.walks.+share.Goals as goal

pub share_leaf-loop-node-preserved : goal.share_leaf-loop-node-preserved
share_leaf-loop-node-preserved t c =
    let others = leaves_of (shapes c.args.others.now) in
    let step = meet_more others c.args.nodes.now c.loop-node.node-index c.node-item.result c.loop-node-test.true in
    grind (arith, common_steps, step)
