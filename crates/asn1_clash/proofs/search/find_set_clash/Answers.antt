use Rattle.std.proofs.Common.{sym, ap, subst, ◌∙◌}
use Rattle.std.specs.List.Sorted.{IsPermutation, IsSorted}
use Rattle.std.specs.Ordering.{is_lt}
use Rattle.std.proofs.lemmas.List.Sorted.{answers_always}
use Rattle.asn1_clash.specs.Views.{components_view}
use Rattle.asn1_clash.specs.Occurrences.{occurrence_cmp, occurrences}
use Rattle.asn1_clash.proofs.Flat.{found_in_set}
use Rattle.asn1_clash.proofs.Occurrences.{occurrences_ranked, set_clash_found}
use Rattle.asn1_clash.proofs.search.find_set_clash.Goals as goal

pub pair_with_equal_tags-requires : goal.pair_with_equal_tags-requires
pair_with_equal_tags-requires c =
    let up = c.sort_unstable_by.ensures.sorted (λ a b. is_lt (occurrence_cmp a b)) occurrences_ranked (answers_always _ _ _ (λ f a r g called. ap is_lt called.met)) in
    subst (IsSorted occurrence_cmp) (sym c.deref.ensures.value) up

pub returns : goal.returns
returns c =
    let moved = subst (λ all. IsPermutation all c.sort_unstable_by.new.self.items) c.in_ok-occurrences.ensures c.sort_unstable_by.ensures.permutation in
    let found =
    c.lesser_pair.ensures
    ∙ set_clash_found (components_view c.args.components.now) c.deref.result.now _ _
    (subst (IsPermutation (occurrences 0 (components_view c.args.components.now))) (sym c.deref.ensures.value) moved)
    c.pair_with_open.ensures c.pair_with_equal_tags.ensures in
    let all = found_in_set (components_view c.args.components.now) c.lesser_pair.result found in
    record { report = all.report; least = all.least; report_of_table = all.report_of_table; least_of_table = all.least_of_table }
