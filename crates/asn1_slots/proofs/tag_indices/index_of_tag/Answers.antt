use Rattle.std.proofs.Common.{subst}
use Rattle.asn1_slots.proofs.TreesWithTags.{no_leaf_alone, no_trees, trees_are}
use Rattle.asn1_slots.specs.TagIndices.{IsIndexOf}
use Rattle.asn1_slots.proofs.tag_indices.index_of_tag.Goals as goal

pub returns-in-Choice : goal.returns-in-Choice
returns-in-Choice g c =
    subst (λ trees. IsIndexOf c.args.tag trees c.first_with_leaf.result)
    (trees_are g.T.AsnType.meaning g.T.Choice.alternatives g.T.Choice.pick g.met.T.ChoiceType.agrees c.table.result.tree c.in-Choice.trees c.table.ensures.tree c.in-Choice.is)
    c.first_with_leaf.ensures

pub returns-in-Leaf : goal.returns-in-Leaf
returns-in-Leaf g c = λ k at.
    no_leaf_alone g.T.AsnType.meaning g.T.Choice.alternatives g.T.Choice.pick g.met.T.ChoiceType.agrees c.table.result.tree c.args.tag k c.table.ensures.tree c.in-Leaf.is at

pub returns-in-Open : goal.returns-in-Open
returns-in-Open g c = λ k at.
    no_trees g.T.AsnType.meaning g.T.Choice.alternatives g.T.Choice.pick g.met.T.ChoiceType.agrees c.table.result.tree c.args.tag k c.table.ensures.tree c.in-Open.is at
