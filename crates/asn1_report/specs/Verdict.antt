-- The texts of verdicts.
use Rattle.std.specs.Prelude.{ℕ, ◌++◌, List, codes}
use Rattle.asn1_report.specs.SchemaTables.{clash_text, order_text}
use Rattle.asn1_report.specs.Texts.{verdict_of}
use Rattle.asn1_report.specs.declared.verdict.TableVerdict.{TableVerdict}
use Rattle.asn1_report.specs.declared.verdict.TreeVerdict.{TreeVerdict}

-- of a verdict on a tree
abbrev pub tree_verdict_text : TreeVerdict → List ℕ
tree_verdict_text verdict = verdict_of verdict.0.is_unique verdict.0.smallest_tag verdict.0.leaf_count

-- of a verdict on a table
abbrev pub table_verdict_text : TableVerdict → List ℕ
table_verdict_text verdict = clash_text verdict.clash ++ codes ", " ++ order_text verdict.is_canonical
