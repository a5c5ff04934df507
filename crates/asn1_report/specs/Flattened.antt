-- The flat forms of trees, which the program keeps.
use Rattle.std.specs.Prelude.{◌≡◌, ◌++◌, map, Option, option_map}
use Rattle.asn1_clash.specs.Flat.{flat, flat_component}
use Rattle.asn1_report.specs.Report.{Answer, State}
use Rattle.asn1_report.specs.Views.{state_view, statement_view}
use Rattle.asn1_report.specs.Statements.{Statement, names_tree, adds_component}
use Rattle.asn1_report.specs.SchemaTables.{Table}
use Rattle.asn1_report.specs.declared.reporter.Reporter.{Reporter}
use Rattle.asn1_report.specs.declared.statement.Statement as declared

-- a statement whose tree is flat
abbrev pub flat_statement : Statement → Statement
flat_statement (names_tree name tree) = names_tree name (flat tree)
flat_statement (adds_component component) = adds_component (flat_component component)
flat_statement statement = statement

-- The parsed statement is the statement of the definition, with a flat tree.
abbrev pub IsParsedAs : Option Statement → Option declared.Statement → Type 0
IsParsedAs said read = option_map statement_view read ≡ option_map flat_statement said

-- a table whose trees are flat
abbrev pub flat_table : Table → Table
flat_table table = record table { components = map flat_component table.components }

-- a state whose table has flat trees
abbrev pub flat_state : State → State
flat_state s = record s { table = option_map flat_table s.table }

-- An answer was given: its text was added, and the reporter is in the state after it.
pub record Gives (answer : Answer) (old new : Reporter) : Type 0 where
  pub text : new.text.items ≡ old.text.items ++ answer.text
  pub state : state_view new ≡ answer.state

-- The answer that the definition gives is the text of the reporter, which is in the state after it, with flat trees.
pub record HasAnswered (answer : Answer) (reporter : Reporter) : Type 0 where
  pub text : reporter.text.items ≡ answer.text
  pub state : state_view reporter ≡ flat_state answer.state
