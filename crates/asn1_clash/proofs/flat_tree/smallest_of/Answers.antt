use Rattle.std.proofs.Common.{◌≡◌, ℕ, ◌+◌, ◌<◌, get_or, fold, take, List, length, sym, ap, ◌∙◌}
use Rattle.std.proofs.lemmas.List.Sums.{fold_more}
use Rattle.asn1_tags.specs.Tags.{lesser}
use Rattle.asn1_tags.specs.declared.tags.Tag.{Tag}
use Rattle.asn1_clash.proofs.flat_tree.smallest_of.Goals as goal

-- the lesser of the smallest so far and the next
smallest_more : (first s t : Tag) (ts : List Tag) (i : ℕ) (d : Tag) → s ≡ fold lesser first (take i ts) → t ≡ lesser s (get_or ts i d) → i < length ts →
    t ≡ fold lesser first (take (i + 1) ts)
smallest_more first s t ts i d before next lt = next ∙ (ap (λ u. lesser u (get_or ts i d)) before ∙ sym (fold_more lesser first ts i d lt))

pub loop-tag-preserved : goal.loop-tag-preserved
loop-tag-preserved c = smallest_more _ _ _ _ _ _ c.loop-tag.invariant c.lesser-smallest.ensures c.loop-tag-test.true
