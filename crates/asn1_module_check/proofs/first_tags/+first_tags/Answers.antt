use Rattle.std.proofs.Common.{◌≡◌, ◌+◌, ◌<◌, ◌≤◌, None, Some, length, refl, sym, ap, ◌∙◌, arith}
use Rattle.std.specs.List.{slice_get}
use Rattle.std.proofs.lemmas.List.{take_all}
use Rattle.std.proofs.lemmas.Option.{slice_get_past, slice_get_read}
use Rattle.std.proofs.lemmas.Result.{on_ok_weaker}
use Rattle.asn1_module_check.specs.FirstTags.{both, capped, first_within, of_each, seen}
use Rattle.asn1_module_check.proofs.FirstTags.{capped_more, seen_open, to_alternatives, to_definition, to_none}
use Rattle.asn1_module_check.proofs.first_tags.+first_tags.Goals as goal

pub add_alternatives-loop-alternative-preserved : goal.add_alternatives-loop-alternative-preserved
add_alternatives-loop-alternative-preserved t c =
    let within : c.loop-alternative.alternative-index < length c.args.alternatives.now = omega arith in
    capped_more (λ alternative. first_within c.args.schema.now c.args.depth alternative.definition.kind) c.args.alternatives.now
    c.loop-alternative.alternative-index c.alternative-item.result (seen c.args.tree.now) (seen c.loop-alternative.tree) (seen c.add_first_tags.new.tree)
    within c.loop-alternative.invariant
    (c.in_ok-add_first_tags.ensures ∙ ap (λ alternative. capped (both (seen c.loop-alternative.tree)
    (first_within c.args.schema.now c.args.depth alternative.definition.kind))) c.alternative-item.is)

pub add_alternatives-returns : goal.add_alternatives-returns
add_alternatives-returns t c =
    let all : length c.args.alternatives.now ≤ c.loop-alternative.alternative-index = omega arith in
    c.loop-alternative.invariant ∙ ap (λ xs. capped (both (seen c.args.tree.now)
    (of_each (λ alternative. first_within c.args.schema.now c.args.depth alternative.definition.kind) xs)))
    (take_all c.loop-alternative.alternative-index c.args.alternatives.now all)

pub add_first_tags-returns-in-Some-get : goal.add_first_tags-returns-in-Some-get
add_first_tags-returns-in-Some-get t c =
    let next : c.args.depth ≡ c.in-Some.depth + 1 = omega (arith, c.in-Some.ensures) in
    let at : slice_get c.deref.result.now c.in-Reference.index ≡ Some c.in-Some-get.referenced.now =
    slice_get_read c.deref.result.now (length c.deref.result.now) c.in-Reference.index c.in-Some-get.referenced.now refl
    c.in-Some-get.ensures.lookup.3.0 c.in-Some-get.ensures.lookup.1 in
    let found : slice_get c.args.schema.now.types.items c.in-Reference.index ≡ Some c.in-Some-get.referenced.now =
    ap (λ xs. slice_get xs c.in-Reference.index) (sym c.deref.ensures.value) ∙ at in
    on_ok_weaker c.add_first_tags.result (λ added. added ∙ ap (λ first. capped (both (seen c.args.tree.now) first))
    (sym (to_definition c.args.schema.now c.args.depth c.in-Some.depth c.in-Reference.index c.args.definition.now.kind
    c.in-Some-get.referenced.now next c.in-Reference.is found))) c.add_first_tags.ensures

pub add_first_tags-returns-in-None : goal.add_first_tags-returns-in-None
add_first_tags-returns-in-None t c =
    let next : c.args.depth ≡ c.in-Some.depth + 1 = omega (arith, c.in-Some.ensures) in
    let at : slice_get c.deref.result.now c.in-Reference.index ≡ None =
    slice_get_past c.deref.result.now c.in-Reference.index c.in-None.ensures.lookup.3 in
    let found : slice_get c.args.schema.now.types.items c.in-Reference.index ≡ None =
    ap (λ xs. slice_get xs c.in-Reference.index) (sym c.deref.ensures.value) ∙ at in
    ap capped (seen_open c.args.tree.now c.add_empty_choice-in-None.new.self c.add_empty_choice-in-None.ensures)
    ∙ ap (λ first. capped (both (seen c.args.tree.now) first))
    (sym (to_none c.args.schema.now c.args.depth c.in-Some.depth c.in-Reference.index c.args.definition.now.kind next c.in-Reference.is found))

pub add_first_tags-returns-in_ok-add_alternatives-in-Choice : goal.add_first_tags-returns-in_ok-add_alternatives-in-Choice
add_first_tags-returns-in_ok-add_alternatives-in-Choice t c =
    let next : c.args.depth ≡ c.in-Some.depth + 1 = omega (arith, c.in-Some.ensures) in
    on_ok_weaker c.add_alternatives-in-Choice.result (λ added. to_alternatives c.args.schema.now c.args.depth c.in-Some.depth
    c.args.definition.now.kind c.in-Choice.alternatives c.as_slice.result.now c.as_slice-in-Choice.result.now (seen c.args.tree.now)
    (seen c.add_alternatives.new.tree) (seen c.add_alternatives-in-Choice.new.tree) next c.in-Choice.is
    c.as_slice.ensures.value c.as_slice-in-Choice.ensures.value c.in_ok-add_alternatives-in-Choice.ensures added)
    c.add_alternatives-in-Choice.ensures
