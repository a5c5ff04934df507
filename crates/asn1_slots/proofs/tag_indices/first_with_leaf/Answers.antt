use Rattle.std.proofs.Common.{refl}
use Rattle.std.proofs.lemmas.Bool.{false≢true}
use Rattle.asn1_slots.proofs.TreesWithTags.{has_at, none_at_all, nor_this}
use Rattle.asn1_slots.proofs.tag_indices.first_with_leaf.Goals as goal

pub returns-then-tag_contains : goal.returns-then-tag_contains
returns-then-tag_contains c =
    has_at c.args.trees.now c.loop-index.index c.index-trees-index.result _ c.args.tag c.loop-index-test.true c.index-trees-index.is c.from_ref.ensures.value (c.if-tag_contains.ensures.0 refl)

pub loop-index-preserved : goal.loop-index-preserved
loop-index-preserved c =
    nor_this c.args.trees.now c.loop-index.index c.index-trees-index.result _ c.args.tag c.loop-index.invariant c.index-trees-index.is c.from_ref.ensures.value (λ has. false≢true (c.if-tag_contains.ensures.1 has))

pub returns : goal.returns
returns c = none_at_all c.args.trees.now c.loop-index.index c.args.tag c.loop-index.invariant c.loop-index-test.false
