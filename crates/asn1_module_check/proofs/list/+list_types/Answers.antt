use Rattle.std.proofs.Common.{◌≡◌, ◌≤◌, List, ◌++◌, length, map, sym, ap, ◌∙◌, append_assoc, arith}
use Rattle.std.specs.List.{flat_map}
use Rattle.std.proofs.lemmas.List.{take_all}
use Rattle.std.proofs.lemmas.Result.{on_ok_weaker}
use Rattle.asn1_resolved.proofs.TypesInside.{in_alternatives, in_components}
use Rattle.asn1_resolved.specs.TypesInside.{types_in_addition, types_in_alternatives, types_in_components}
use Rattle.asn1_module_check.specs.Tables.{table_view, tables_in, tables_of}
use Rattle.asn1_module_check.proofs.list.+list_types.Goals as goal

joined : {A : Type 0} (start middle after first second all : List A) → middle ≡ start ++ first → after ≡ middle ++ second → all ≡ first ++ second →
    after ≡ start ++ all
joined start middle after first second all was added is =
    added ∙ (ap (λ l. l ++ second) was ∙ (append_assoc start first second ∙ ap (λ l. start ++ l) (sym is)))

pub list_alternatives-returns : goal.list_alternatives-returns
list_alternatives-returns t c =
    on_ok_weaker c.list_chosen-2.result (λ added. joined (map table_view c.args.list.now.items) (map table_view c.list_chosen.new.list.items)
    (map table_view c.list_chosen-2.new.list.items)
    (flat_map (λ alternative. tables_in c.args.schema.now alternative.definition.kind) c.as_slice.result.now)
    (flat_map (λ alternative. tables_in c.args.schema.now alternative.definition.kind) c.as_slice-2.result.now)
    (flat_map (tables_of c.args.schema.now) (types_in_alternatives c.args.alternatives.now)) c.in_ok-list_chosen.ensures added
    (in_alternatives (tables_of c.args.schema.now) c.args.alternatives.now
    ∙ λ i. flat_map (λ alternative. tables_in c.args.schema.now alternative.definition.kind) (sym c.as_slice.ensures.value i)
    ++ flat_map (λ alternative. tables_in c.args.schema.now alternative.definition.kind) (sym c.as_slice-2.ensures.value i)))
    c.list_chosen-2.ensures

pub list_components-returns : goal.list_components-returns
list_components-returns t c =
    let all : length c.deref-addition-items.result.now ≤ c.loop-addition.addition-index = omega arith in
    joined (map table_view c.args.list.now.items) (map table_view c.list_inner.new.list.items) (map table_view c.loop-addition.list.items)
    (flat_map (λ component. tables_in c.args.schema.now component.definition.kind) c.as_slice.result.now)
    (flat_map (λ addition. flat_map (tables_of c.args.schema.now) (types_in_addition addition)) c.deref-addition-items.result.now)
    (flat_map (tables_of c.args.schema.now) (types_in_components c.args.components.now)) c.in_ok-list_inner.ensures
    (c.loop-addition.invariant ∙ ap (λ xs. map table_view c.list_inner.new.list.items
    ++ flat_map (λ addition. flat_map (tables_of c.args.schema.now) (types_in_addition addition)) xs)
    (take_all c.loop-addition.addition-index c.deref-addition-items.result.now all))
    (in_components (tables_of c.args.schema.now) c.args.components.now
    ∙ λ i. flat_map (λ component. tables_in c.args.schema.now component.definition.kind) (sym c.as_slice.ensures.value i)
    ++ flat_map (λ addition. flat_map (tables_of c.args.schema.now) (types_in_addition addition)) (sym c.deref-addition-items.ensures.value i))
