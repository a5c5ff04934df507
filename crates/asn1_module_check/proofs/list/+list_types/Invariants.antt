use Rattle.std.proofs.Common.{◌≡◌, ◌++◌, map, take}
use Rattle.std.specs.List.{flat_map}
use Rattle.asn1_resolved.specs.TypesInside.{types_in_addition}
use Rattle.asn1_module_check.specs.Tables.{table_view, tables_in, tables_of}
use Rattle.asn1_module_check.proofs.list.+list_types.Given as goal

abbrev pub invariant-list_chosen-loop-alternative : goal.invariant-list_chosen-loop-alternative
invariant-list_chosen-loop-alternative l = map table_view l.list.items
    ≡ map table_view l.fn.list.items ++ flat_map (λ alternative. tables_in l.schema alternative.definition.kind) (take l.alternative-index l.alternatives)

abbrev pub invariant-list_components-loop-addition : goal.invariant-list_components-loop-addition
invariant-list_components-loop-addition l = map table_view l.list.items
    ≡ map table_view l.initial.list.items ++ flat_map (λ addition. flat_map (tables_of l.schema) (types_in_addition addition)) (take l.addition-index l.addition-items)

abbrev pub invariant-list_inner-loop-component : goal.invariant-list_inner-loop-component
invariant-list_inner-loop-component l = map table_view l.list.items
    ≡ map table_view l.fn.list.items ++ flat_map (λ component. tables_in l.schema component.definition.kind) (take l.component-index l.components)
