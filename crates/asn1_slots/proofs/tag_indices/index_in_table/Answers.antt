use Rattle.std.proofs.Common.{IfOk, subst}
use Rattle.asn1_slots.proofs.TreesWithTags.{no_leaf_alone, no_trees, trees_are}
use Rattle.asn1_slots.specs.TagIndices.{IsIndexOf}
use Rattle.asn1_slots.proofs.tag_indices.index_in_table.Goals as goal

pub returns-in-Choice : goal.returns-in-Choice
returns-in-Choice g c =
    subst (λ trees. IfOk c.find_in_table.result (λ index. IsIndexOf c.args.tag trees index))
    (trees_are g.T.AsnType.meaning g.T.Choice.alternatives g.T.Choice.pick g.met.T.ChoiceType.agrees c.table.result.tree c.in-Choice.trees c.table.ensures.tree c.in-Choice.is)
    c.find_in_table.ensures

pub returns-in-Leaf : goal.returns-in-Leaf
returns-in-Leaf g c = λ k at.
    no_leaf_alone g.T.AsnType.meaning g.T.Choice.alternatives g.T.Choice.pick g.met.T.ChoiceType.agrees c.table.result.tree c.args.tag k c.table.ensures.tree c.in-Leaf.is at

pub returns-in-Open : goal.returns-in-Open
returns-in-Open g c = λ k at.
    no_trees g.T.AsnType.meaning g.T.Choice.alternatives g.T.Choice.pick g.met.T.ChoiceType.agrees c.table.result.tree c.args.tag k c.table.ensures.tree c.in-Open.is at
