use Rattle.std.proofs.Common.{◌≡◌, ◌++◌, map, take}
use Rattle.std.specs.List.{flat_map}
use Rattle.asn1_module_check.specs.Tables.{table_view, tables_in}
use Rattle.asn1_module_check.proofs.list.list_constructed.Given as goal

abbrev pub invariant-loop-defined : goal.invariant-loop-defined
invariant-loop-defined l = map table_view l.list.items
    ≡ flat_map (λ defined. tables_in l.schema defined.definition.kind) (take l.defined-index l.schema.types.items)

abbrev pub invariant-loop-value : goal.invariant-loop-value
invariant-loop-value l = map table_view l.list.items
    ≡ flat_map (λ defined. tables_in l.schema defined.definition.kind) l.schema.types.items
    ++ flat_map (λ defined. tables_in l.schema defined.definition.kind) (take l.value-index l.schema.values.items)
