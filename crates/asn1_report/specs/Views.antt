-- The values that the types of this crate represent.
use Rattle.std.specs.Prelude.{ℕ, List, [], ◌∷◌, Option, Some, None, if◌then◌else◌, option_map}
use Rattle.asn1_clash.specs.Views.{component_view, components_view, tree_view}
use Rattle.asn1_report.specs.Report.{State}
use Rattle.asn1_report.specs.Statements.{Statement, says_nothing, names_tree, names_bounds, begins_table, adds_component, ends_table}
use Rattle.asn1_report.specs.SchemaTables.{Table}
use Rattle.asn1_report.specs.declared.line.Line.{Line}
use Rattle.asn1_report.specs.declared.parts.Parts.{Parts}
use Rattle.asn1_report.specs.declared.parts.Parts.TheVariants.{One, Two, Three}
use Rattle.asn1_report.specs.declared.reporter.Reporter.{Reporter}
use Rattle.asn1_report.specs.declared.statement.Statement as declared
use Rattle.asn1_report.specs.declared.statement.Statement.TheVariants.{SaysNothing, NamesTree, NamesBounds, BeginsTable, AddsComponent, EndsTable}
use Rattle.asn1_report.specs.declared.table.Table as declared_table

-- the line, unless it is too long
abbrev pub line_view : Line → Option (List ℕ)
line_view line = if line.is_too_long then None else Some line.bytes.items

-- the parts of a text
abbrev pub parts_view : Parts → List (List ℕ)
parts_view (One text) = text.now ∷ []
parts_view (Two first rest) = first.now ∷ rest.now ∷ []
parts_view (Three first second last) = first.now ∷ second.now ∷ last.now ∷ []

-- the statement of a line
abbrev pub statement_view : declared.Statement → Statement
statement_view SaysNothing = says_nothing
statement_view (NamesTree name tree) = names_tree name.now (tree_view tree)
statement_view (NamesBounds name first second) = names_bounds name.now first second
statement_view (BeginsTable kind name) = begins_table kind name.now
statement_view (AddsComponent component) = adds_component (component_view component)
statement_view EndsTable = ends_table

-- a table
abbrev pub table_view : declared_table.Table → Table
table_view table =
    record { kind = table.kind; name = table.name.items; components = components_view table.components.items; understood = table.is_understood }

-- the state on which the next answer depends
abbrev pub state_view : Reporter → State
state_view reporter = record { number = reporter.number; table = option_map table_view reporter.table; understood = reporter.all_understood }
