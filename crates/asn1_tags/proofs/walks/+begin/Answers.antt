use Rattle.std.proofs.Common.{arith}
use Rattle.std.proofs.lemmas.Grind.{common_steps}
use Rattle.asn1_tags.proofs.Leaves.{begins_more}
use Rattle.asn1_tags.proofs.walks.+begin.Goals as goal

pub any_begins_with-loop-node-preserved : goal.any_begins_with-loop-node-preserved
any_begins_with-loop-node-preserved t c =
    let step = begins_more c.args.tag.now c.args.nodes.now c.loop-node.node-index c.node-item.result c.loop-node-test.true in
    grind (arith, common_steps, step)
