use Rattle.asn1_clash.proofs.Occurrences.{leaf_added, field_passed}
use Rattle.asn1_clash.proofs.search.occurrences_in.Goals as goal

pub loop-tag-preserved : goal.loop-tag-preserved
loop-tag-preserved c = leaf_added _ _ _ _ _ _ _ c.loop-tag.invariant c.in_ok-push.ensures.items c.loop-tag-test.true

pub loop-index-preserved : goal.loop-index-preserved
loop-index-preserved c =
    field_passed c.loop-index.occurrences.items c.loop-tag.occurrences.items c.args.components.now c.loop-index.index c.index-components-index.result c.tags-tag-items.result.now c.loop-tag.tag-index
    c.loop-index.invariant c.loop-tag.invariant c.loop-tag-test.false c.tags-tag-items.ensures c.index-components-index.is c.loop-index-test.true
