use Rattle.std.proofs.Common.{◌≡◌, ap, ◌∙◌}
use Rattle.std.specs.Prelude.{unwrap_or, slice_get}
use Rattle.std.specs.Ordering.{is_lt}
use Rattle.std.proofs.lemmas.List.Sorted.{answers_always, length_permutation}
use Rattle.asn1_tags.specs.Tags.{greatest, tag_cmp}
use Rattle.asn1_clash.proofs.Summaries.{tags_ranked, tells_less, distinct-in_order, smallest-in_order, distinct-permutation, smallest-permutation}
use Rattle.asn1_clash.proofs.summary.TreeSummary.of.Goals as goal

pub returns : goal.returns
returns c =
    let tags = c.sort_unstable_by.new.self in
    let moved = c.sort_unstable_by.ensures.permutation in
    let up = c.sort_unstable_by.ensures.sorted (λ s t. is_lt (tag_cmp s t)) tags_ranked (answers_always _ _ _ (λ f a r g called. ap is_lt called.met.0)) in
    let unique = distinct-in_order tags c.is_sorted_by.result up (c.is_sorted_by.ensures.cases (λ s t. is_lt (tag_cmp s t)) (answers_always _ _ _ (λ f a r g called. tells_less r _ called.met))) in
    let first : c.unwrap_or.result ≡ unwrap_or (slice_get tags 0) greatest =
    c.unwrap_or.ensures ∙ ap (λ r. unwrap_or r greatest) (c.copied.ensures ∙ c.first.ensures.value) in
    record {
      unique = unique ∙ distinct-permutation c.args.leaves.now tags moved;
      smallest = first ∙ (smallest-in_order tags up ∙ smallest-permutation c.args.leaves.now tags moved);
      count = length_permutation c.args.leaves.now tags moved;
      same_leaves = moved;
    }
