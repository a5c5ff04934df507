-- Tables: the components of a SEQUENCE or a SET, line by line, and their verdicts.
use Rattle.std.specs.Prelude.{ℕ, Bool, true, false, ◌++◌, nat_lt, if◌then◌else◌, codes, List, [], ◌∷◌, Option, None, Some, length}
use Rattle.std.specs.Fmt.{decimal}
use Rattle.asn1_fields.specs.CanonicalOrder.{canonical}
use Rattle.asn1_fields.specs.DistinctTags.{sequence_clash, set_clash}
use Rattle.asn1_fields.specs.FieldViews.{Component}
use Rattle.asn1_report.specs.declared.table_kind.TableKind.{TableKind}
use Rattle.asn1_report.specs.declared.table_kind.TableKind.TheVariants.{Sequence, Set}
use Rattle.asn1_report.specs.Texts.{named_line}

-- the word that begins a table of that kind
abbrev pub kind_word : TableKind → List ℕ
kind_word Sequence = codes "sequence"
kind_word Set = codes "set"

-- the least pair of indices whose components share a tag although X.680 forbids it in a table of that kind
abbrev pub clash_of : TableKind → List Component → Option (ℕ × ℕ)
clash_of Sequence components = sequence_clash components
clash_of Set components = set_clash components

-- the text of such a pair, or of none
abbrev pub clash_text : Option (ℕ × ℕ) → List ℕ
clash_text None = codes "no clash"
clash_text (Some (i, j)) = codes "clash " ++ decimal i ++ codes " " ++ decimal j

-- whether components are in canonical order, in words
abbrev pub order_text : Bool → List ℕ
order_text in_order = if in_order then codes "canonical" else codes "not canonical"

-- a table whose `end` has not come yet
pub record Table : Type 0 where
  pub kind : TableKind
  pub name : List ℕ
  pub components : List Component
  -- whether each of its lines so far was understood
  pub understood : Bool

-- how many components a table may have
abbrev pub most_components : ℕ
most_components = 256

-- a table that begins
abbrev pub new_table : TableKind → List ℕ → Table
new_table kind name = record { kind = kind; name = name; components = []; understood = true }

-- a table with one more component
abbrev pub with_component : Table → Component → Table
with_component table component = record table { components = table.components ++ component ∷ [] }

-- a table of which a line was not understood
abbrev pub unchecked : Table → Table
unchecked table = record table { understood = false }

-- whether a table has room for one more component
abbrev pub has_room : Table → Bool
has_room table = nat_lt (length table.components) most_components

-- a table's line of text: its head line, and the verdict
abbrev pub table_line : Table → List ℕ → List ℕ
table_line table said = named_line (kind_word table.kind) table.name said

-- the verdict on a table with a line that was not understood, or without `end`
abbrev pub unchecked_text : List ℕ
unchecked_text = codes "not checked"

-- the text for the `end` of a table
abbrev pub table_verdict : Table → List ℕ
table_verdict table =
    table_line table
    (if table.understood
    then clash_text (clash_of table.kind table.components) ++ codes ", " ++ order_text (canonical table.components)
    else unchecked_text)
