use Rattle.std.proofs.Common.{arith, refl}
use Rattle.asn1_slots.proofs.TreesWithTags.{counted, leaf_is_at, no_leaf, not_counted, one_more_tree}
use Rattle.asn1_slots.proofs.tag_indices.index_of_leaf.Goals as goal

pub returns-then-left-count : goal.returns-then-left-count
returns-then-left-count c = λ t found.
    leaf_is_at c.args.trees.now c.loop-index.index c.index-trees-index.result _ c.args.position c.loop-index.left t c.loop-index-test.true c.index-trees-index.is refl c.loop-index.invariant
    (omega (arith, c.if-left-count.true, counted _ _ _ c.in-Some.is c.leaf_number.ensures)) found

pub returns-in-None : goal.returns-in-None
returns-in-None c = λ t found.
    leaf_is_at c.args.trees.now c.loop-index.index c.index-trees-index.result _ c.args.position c.loop-index.left t c.loop-index-test.true c.index-trees-index.is refl c.loop-index.invariant
    (not_counted c.loop-index.left _ _ c.in-None.is c.leaf_number.ensures (omega (arith, c.loop-index.auto.left-fits))) found

pub loop-index-preserved : goal.loop-index-preserved
loop-index-preserved c =
    one_more_tree c.args.trees.now c.loop-index.index c.index-trees-index.result _ c.args.position c.loop-index.left c.in-Some.count c.loop-index-test.true c.index-trees-index.is refl c.loop-index.invariant
    (counted _ _ _ c.in-Some.is c.leaf_number.ensures) c.if-left-count.false

pub returns : goal.returns
returns c = λ t found. no_leaf c.args.trees.now c.loop-index.index c.args.position c.loop-index.left t c.loop-index-test.false c.loop-index.invariant found
