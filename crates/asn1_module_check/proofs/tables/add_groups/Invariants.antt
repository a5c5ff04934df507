use Rattle.std.proofs.Common.{◌≡◌, ◌++◌, map, take}
use Rattle.std.specs.List.{flat_map}
use Rattle.asn1_module_check.specs.Tables.{group_in, table_view}
use Rattle.asn1_module_check.proofs.tables.add_groups.Given as goal

abbrev pub invariant-loop-addition : goal.invariant-loop-addition
invariant-loop-addition l = map table_view l.list.items
    ≡ map table_view l.fn.list.items ++ flat_map (group_in l.kind l.schema) (take l.addition-index l.additions)
