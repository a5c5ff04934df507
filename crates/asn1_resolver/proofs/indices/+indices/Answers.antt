use Rattle.std.proofs.Common.{◌≡◌, ◌≤◌, ◌++◌, length, sym, ap, ◌∙◌, append_assoc, arith}
use Rattle.std.specs.List.{flat_map}
use Rattle.std.proofs.lemmas.List.{take_all}
use Rattle.std.proofs.lemmas.Result.{on_ok_weaker}
use Rattle.asn1_resolved.proofs.TypesInside.{in_alternatives, in_components}
use Rattle.asn1_resolved.specs.TypesInside.{types_in_addition, types_in_alternatives, types_in_components}
use Rattle.asn1_resolver.specs.Indices.{indices_in, index_of_reference}
use Rattle.asn1_resolver.proofs.indices.+indices.Goals as goal

pub list_alternatives-returns : goal.list_alternatives-returns
list_alternatives-returns t c =
    let start = c.args.indices.now.items in
    let first = flat_map (λ alternative. indices_in alternative.definition.kind) c.as_slice.result.now in
    let second = flat_map (λ alternative. indices_in alternative.definition.kind) c.as_slice-2.result.now in
    let both : flat_map index_of_reference (types_in_alternatives c.args.alternatives.now) ≡ first ++ second = in_alternatives index_of_reference c.args.alternatives.now
    ∙ λ i. flat_map (λ alternative. indices_in alternative.definition.kind) (sym c.as_slice.ensures.value i)
    ++ flat_map (λ alternative. indices_in alternative.definition.kind) (sym c.as_slice-2.ensures.value i) in
    on_ok_weaker c.list_chosen-2.result (λ added. added ∙ (ap (λ l. l ++ second) c.in_ok-list_chosen.ensures
    ∙ (append_assoc start first second ∙ ap (λ l. start ++ l) (sym both)))) c.list_chosen-2.ensures

pub list_components-returns : goal.list_components-returns
list_components-returns t c =
    let start = c.args.indices.now.items in
    let first = flat_map (λ component. indices_in component.definition.kind) c.as_slice.result.now in
    let second = flat_map (λ addition. flat_map index_of_reference (types_in_addition addition)) c.deref-addition-items.result.now in
    let both : flat_map index_of_reference (types_in_components c.args.components.now) ≡ first ++ second = in_components index_of_reference c.args.components.now
    ∙ λ i. flat_map (λ component. indices_in component.definition.kind) (sym c.as_slice.ensures.value i)
    ++ flat_map (λ addition. flat_map index_of_reference (types_in_addition addition)) (sym c.deref-addition-items.ensures.value i) in
    let all : length c.deref-addition-items.result.now ≤ c.loop-addition.addition-index = omega arith in
    c.loop-addition.invariant
    ∙ (ap (λ xs. c.list_inner.new.indices.items ++ flat_map (λ addition. flat_map index_of_reference (types_in_addition addition)) xs)
    (take_all c.loop-addition.addition-index c.deref-addition-items.result.now all)
    ∙ (ap (λ l. l ++ second) c.in_ok-list_inner.ensures ∙ (append_assoc start first second ∙ ap (λ l. start ++ l) (sym both))))
