use Rattle.std.proofs.Common.{◌≡◌, ◌++◌, take}
use Rattle.std.specs.List.{flat_map}
use Rattle.asn1_module_check.specs.Tables.{rows_of_addition, rows_view}
use Rattle.asn1_module_check.proofs.tables.add_additions.Given as goal

abbrev pub invariant-loop-addition : goal.invariant-loop-addition
invariant-loop-addition l = rows_view l.rows
    ≡ rows_view l.fn.rows ++ flat_map (rows_of_addition l.schema) (take l.addition-index l.additions)
