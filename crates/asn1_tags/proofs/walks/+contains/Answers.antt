use Rattle.std.proofs.Common.{arith}
use Rattle.std.proofs.lemmas.Grind.{common_steps}
use Rattle.asn1_tags.proofs.Leaves.{has_more}
use Rattle.asn1_tags.proofs.walks.+contains.Goals as goal

pub have_leaf-loop-node-preserved : goal.have_leaf-loop-node-preserved
have_leaf-loop-node-preserved t c =
    let step = has_more c.args.tag.now c.args.nodes.now c.loop-node.node-index c.node-item.result c.loop-node-test.true in
    grind (arith, common_steps, step)
