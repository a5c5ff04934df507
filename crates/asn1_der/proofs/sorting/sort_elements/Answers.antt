use Rattle.std.proofs.Common.{◌≡◌, [], subst, ◌∙◌}
use Rattle.std.specs.Prelude.{◌⊎◌, IsTrue}
use Rattle.asn1_der.proofs.Pieces.{few_sorted}
use Rattle.asn1_der_items.specs.Series.{is_one_element}
use Rattle.asn1_der.proofs.sorting.sort_elements.Goals as goal

pub returns-then-is_at_most_one : goal.returns-then-is_at_most_one
returns-then-is_at_most_one c = λ before inside elements is starts joined.
    let same = c.in-Some.ensures before inside (c.deref.ensures.value ∙ is) starts in
    let few = c.is_at_most_one.ensures c.if-is_at_most_one.true in
    record { added = inside; is = few_sorted c.args.order elements inside (subst (λ l. (l ≡ []) ⊎ IsTrue (is_one_element l)) same few) joined; joined = is }
