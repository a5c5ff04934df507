use Rattle.std.proofs.Common.{◌≡◌, ◌++◌, take}
use Rattle.asn1_module_check.specs.Tables.{rows_of, rows_view}
use Rattle.asn1_module_check.proofs.tables.add_components.Given as goal

abbrev pub invariant-loop-component : goal.invariant-loop-component
invariant-loop-component l = rows_view l.rows ≡ rows_view l.fn.rows ++ rows_of l.schema (take l.component-index l.components)
