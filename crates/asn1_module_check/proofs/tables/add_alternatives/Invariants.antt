use Rattle.std.proofs.Common.{◌≡◌, ◌++◌, take}
use Rattle.asn1_module_check.specs.Tables.{rows_of_alternatives, rows_view}
use Rattle.asn1_module_check.proofs.tables.add_alternatives.Given as goal

abbrev pub invariant-loop-alternative : goal.invariant-loop-alternative
invariant-loop-alternative l =
    rows_view l.rows ≡ rows_view l.fn.rows ++ rows_of_alternatives l.schema (take l.alternative-index l.alternatives)
