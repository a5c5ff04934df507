use Rattle.std.proofs.Common.{◌∙◌}
use Rattle.asn1_tags.specs.Trees.{leaves_of, shapes}
use Rattle.asn1_tags.proofs.Positions.{IsTagAfter-is, position_of-slice_get}
use Rattle.asn1_tags.proofs.trees.TagTree.leaf_at.Goals as goal

pub returns-clause-back : goal.returns-clause-back
returns-clause-back c =
    let tags = leaves_of (shapes c.args.nodes.now) in
    let there = IsTagAfter-is tags c.args.index c.leaf_after.result c.leaf_after.ensures in
    position_of-slice_get tags c.args.index c.ok.result (c.ok.ensures.value ∙ there)
