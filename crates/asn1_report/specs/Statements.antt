-- The statements that the lines of an input make.
use Rattle.std.specs.Prelude.{ℕ, ℤ, Bool, ◌==◌, if◌then◌else◌, codes, List, [], ◌∷◌, Option, Some, None, length, option_map, option_and_then}
use Rattle.std.specs.Str.{bytes_eq}
use Rattle.asn1_tags.specs.Trees.{Tree}
use Rattle.asn1_ranges.specs.declared.bounded.Bounded.{Bounded}
use Rattle.asn1_fields.specs.FieldViews.{Component}
use Rattle.asn1_fields.specs.declared.presence.FieldPresence.{FieldPresence}
use Rattle.asn1_report.specs.declared.table_kind.TableKind.{TableKind}
use Rattle.asn1_report.specs.Grammar.{deepest, tree_of, bounds_of, kind_of, presence_of}
use Rattle.asn1_report.specs.NamesAndNumbers.{is_name}
use Rattle.asn1_report.specs.Parts.{parts_of}

-- the statement that a line makes
pub data Statement : Type 0 where
  -- nothing: the line is empty
  says_nothing : Statement
  -- that a name is that of a tree
  names_tree : List ℕ → Tree → Statement
  -- that a name is that of what two bounds have in common
  names_bounds : List ℕ → Bounded ℤ → Bounded ℤ → Statement
  -- that a table of that kind and name begins
  begins_table : TableKind → List ℕ → Statement
  -- that the table has this component after the others
  adds_component : Component → Statement
  -- that the table ends
  ends_table : Statement

-- a statement on a name: `tree`, the name and a tree, or `bound`, the name and two bounds
abbrev pub statement_on_name : List ℕ → List ℕ → List ℕ → Option Statement
statement_on_name word name text =
    if bytes_eq word (codes "tree") then option_map (names_tree name) (tree_of deepest text)
    else (if bytes_eq word (codes "bound") then option_map (λ (a, b). names_bounds name a b) (bounds_of (parts_of text))
    else None)

-- the statement of the parts of a line outside of tables: one on a name, or a kind's word and a name, with which a table begins
abbrev pub statement_outside : List (List ℕ) → Option Statement
statement_outside (word ∷ name ∷ []) = if is_name name then option_map (λ kind. begins_table kind name) (kind_of word) else None
statement_outside (word ∷ name ∷ text ∷ []) = if is_name name then statement_on_name word name text else None
statement_outside _ = None

-- the statement that a table has a component of this presence, with the tree of the text
abbrev pub component_statement : FieldPresence → List ℕ → Option Statement
component_statement presence text = option_map (λ tree. adds_component (record { presence = presence; tree = tree })) (tree_of deepest text)

-- the statement of the parts of a line inside a table: a name, a presence's word and a tree, which are a component, or `end`
abbrev pub statement_inside : List (List ℕ) → Option Statement
statement_inside (word ∷ []) = if bytes_eq word (codes "end") then Some ends_table else None
statement_inside (name ∷ word ∷ text ∷ []) = if is_name name then option_and_then (λ presence. component_statement presence text) (presence_of word) else None
statement_inside _ = None

-- the statement of a line within the limit of length, inside a table or outside of tables, if it is understood there
abbrev pub statement_of : Bool → Option (List ℕ) → Option Statement
statement_of in_table None = None
statement_of in_table (Some line) =
    if length line == 0 then Some says_nothing
    else (if in_table then statement_inside (parts_of line)
    else statement_outside (parts_of line))
