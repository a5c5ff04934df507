-- The report on an input: what the program writes, as a function of the bytes that it reads.
use Rattle.std.specs.Prelude.{ℕ, ◌+◌, ◌-◌, ◌^◌, Bool, true, false, ◌++◌, min, if◌then◌else◌, codes, List, [], Option, None, Some, is_some, option_map}
use Rattle.std.specs.List.{fold}
use Rattle.std.specs.Option.{option_map_or}
use Rattle.asn1_fields.specs.FieldViews.{Component}
use Rattle.asn1_ranges.specs.Intersection.{intersection}
use Rattle.asn1_tags.specs.Trees.{leaves}
use Rattle.asn1_report.specs.Lines.{lines_of, within_limit}
use Rattle.asn1_report.specs.Statements.{Statement, says_nothing, names_tree, names_bounds, begins_table, adds_component, ends_table, statement_of}
use Rattle.asn1_report.specs.SchemaTables.{Table, new_table, has_room, with_component, unchecked, table_line, table_verdict, unchecked_text}
use Rattle.asn1_report.specs.Texts.{named_line, refusal_text, tree_verdict, common_text}

-- what an answer depends on beside the line itself
pub record State : Type 0 where
  -- how many lines there were, and this one
  pub number : ℕ
  -- the table that is open, if one is
  pub table : Option Table
  -- whether each line was understood
  pub understood : Bool

-- before the first line
abbrev pub start : State
start = record { number = 0; table = None; understood = true }

-- in the next line; the number stays at the greatest that 64 bits hold
abbrev pub in_next_line : State → State
in_next_line s = record s { number = min (s.number + 1) (2 ^ 64 - 1) }

-- an answer: its text, and what the next answer depends on
pub record Answer : Type 0 where
  pub text : List ℕ
  pub state : State

-- the answer to a line that is not understood; a table goes on, and will not be checked
abbrev pub refusal : State → Answer
refusal s = record { text = refusal_text s.number; state = record s { table = option_map unchecked s.table; understood = false } }

-- the answer to one more component of a table, unless it is one too many
abbrev pub component_answer : State → Component → Table → Answer
component_answer s component table =
    if has_room table then record { text = []; state = record s { table = Some (with_component table component) } } else refusal s

-- the answer to the `end` of a table
abbrev pub end_answer : State → Table → Answer
end_answer s table = record { text = table_verdict table; state = record s { table = None } }

-- the answer to what a line says
abbrev pub answer_of : State → Statement → Answer
answer_of s says_nothing = record { text = []; state = s }
answer_of s (names_tree name tree) = record { text = named_line (codes "tree") name (tree_verdict (leaves tree)); state = s }
answer_of s (names_bounds name a b) =
    record { text = named_line (codes "bound") name (common_text (intersection (λ number. number) a b)); state = s }
answer_of s (begins_table kind name) = record { text = []; state = record s { table = Some (new_table kind name) } }
answer_of s (adds_component component) = option_map_or (component_answer s component) s.table (refusal s)
answer_of s ends_table = option_map_or (end_answer s) s.table (refusal s)

-- the answer to a line, as far as it is looked at
abbrev pub answer_to : State → Option (List ℕ) → Answer
answer_to s line =
    let here = in_next_line s in option_map_or (answer_of here) (statement_of (is_some here.table) line) (refusal here)

-- the answer to the end of an input: a table without `end` is not checked
abbrev pub answer_to_end : State → Answer
answer_to_end s =
    option_map_or
    (λ table. record { text = table_line table unchecked_text; state = record s { understood = false } })
    s.table
    (record { text = []; state = s })

-- an answer, and after it the next
abbrev pub followed_by : Answer → (State → Answer) → Answer
followed_by answer next = record { text = answer.text ++ (next answer.state).text; state = (next answer.state).state }

-- the answers to lines, one after another
abbrev pub answers_to : List (List ℕ) → Answer
answers_to lines =
    fold (λ before line. followed_by before (λ s. answer_to s (within_limit line))) (record { text = []; state = start }) lines

-- the answers to an input, to its end
abbrev pub whole_answer : List ℕ → Answer
whole_answer input = followed_by (answers_to (lines_of input)) answer_to_end

-- the text for lines with which an input begins
abbrev pub text_for : List (List ℕ) → List ℕ
text_for lines = (answers_to lines).text

-- what is written for an input
abbrev pub report : List ℕ → List ℕ
report input = (whole_answer input).text

-- whether each line of an input is understood, and each table has its `end`
abbrev pub all_understood : List ℕ → Bool
all_understood input = (whole_answer input).state.understood
