-- Answers are the same where trees are flat.
use Rattle.std.proofs.Common.{◌≡◌, ℕ, Bool, true, false, cond, nat_lt, List, [], ◌∷◌, ◌++◌, map, Option, Some, None, option_map, refl, sym, ap, ◌∙◌}
use Rattle.std.specs.Prelude.{codes, is_some}
use Rattle.std.specs.Option.{option_map_or}
use Rattle.std.proofs.lemmas.List.{length-map, map-append}
use Rattle.asn1_fields.specs.FieldViews.{Component}
use Rattle.asn1_clash.specs.Flat.{flat_component}
use Rattle.asn1_clash.proofs.Flat.{canonical-flat, leaves-flat, sequence_clash-flat, set_clash-flat}
use Rattle.asn1_report.specs.declared.table_kind.TableKind.{TableKind}
use Rattle.asn1_report.specs.declared.table_kind.TableKind.TheVariants.{Sequence, Set}
use Rattle.asn1_report.specs.Flattened.{flat_state, flat_statement, flat_table}
use Rattle.asn1_report.specs.Report.{Answer, State, answer_of, answer_to, answer_to_end, component_answer, end_answer, in_next_line, refusal}
use Rattle.asn1_report.specs.Statements.{Statement, says_nothing, names_tree, names_bounds, begins_table, adds_component, ends_table, statement_of}
use Rattle.asn1_report.specs.SchemaTables.{Table, clash_of, clash_text, has_room, most_components, order_text, table_line, table_verdict, unchecked_text, with_component}
use Rattle.asn1_report.specs.Texts.{named_line, tree_verdict}

-- an answer whose state has flat trees
abbrev pub flat_answer : Answer → Answer
flat_answer answer = record answer { state = flat_state answer.state }

clash-flat : (kind : TableKind) (cs : List Component) → clash_of kind (map flat_component cs) ≡ clash_of kind cs
clash-flat Sequence cs = sequence_clash-flat cs
clash-flat Set cs = set_clash-flat cs

verdict-flat : (t : Table) → table_verdict (flat_table t) ≡ table_verdict t
verdict-flat t =
    λ i. table_line t (cond t.understood (clash_text (clash-flat t.kind t.components i) ++ codes ", " ++ order_text (canonical-flat t.components i)) unchecked_text)

with-flat : (t : Table) (c : Component) → with_component (flat_table t) (flat_component c) ≡ flat_table (with_component t c)
with-flat t c = λ i. record t { components = sym (map-append flat_component t.components (c ∷ [])) i }

refusal-flat : (s : State) → refusal (flat_state s) ≡ flat_answer (refusal s)
refusal-flat s = by_table s.table
  where
    by_table : (t : Option Table) → refusal (flat_state (record s { table = t })) ≡ flat_answer (refusal (record s { table = t }))
    by_table None = refl
    by_table (Some t) = refl

component-flat : (s : State) (c : Component) (t : Table) → component_answer (flat_state s) (flat_component c) (flat_table t) ≡ flat_answer (component_answer s c t)
component-flat s c t =
    ap (λ n. cond (nat_lt n most_components) (record { text = []; state = record s { table = Some (with_component (flat_table t) (flat_component c)) } }) (refusal (flat_state s)))
    (length-map t.components flat_component)
    ∙ by_test (has_room t)
  where
    by_test : (b : Bool) →
        cond b (record { text = []; state = record s { table = Some (with_component (flat_table t) (flat_component c)) } }) (refusal (flat_state s))
        ≡ flat_answer (cond b (record { text = []; state = record s { table = Some (with_component t c) } }) (refusal s))
    by_test true = λ i. record { text = []; state = record s { table = Some (with-flat t c i) } }
    by_test false = refusal-flat s

-- the answer to what a line says
answer_of-flat : (s : State) (statement : Statement) → answer_of (flat_state s) (flat_statement statement) ≡ flat_answer (answer_of s statement)
answer_of-flat s says_nothing = refl
answer_of-flat s (names_tree name tree) = λ i. record { text = named_line (codes "tree") name (tree_verdict (leaves-flat tree i)); state = flat_state s }
answer_of-flat s (names_bounds name a b) = refl
answer_of-flat s (begins_table kind name) = refl
answer_of-flat s (adds_component c) = by_table s.table
  where
    by_table : (t : Option Table) →
        option_map_or (component_answer (flat_state s) (flat_component c)) (option_map flat_table t) (refusal (flat_state s))
        ≡ flat_answer (option_map_or (component_answer s c) t (refusal s))
    by_table None = refusal-flat s
    by_table (Some t) = component-flat s c t
answer_of-flat s ends_table = by_table s.table
  where
    by_table : (t : Option Table) →
        option_map_or (end_answer (flat_state s)) (option_map flat_table t) (refusal (flat_state s)) ≡ flat_answer (option_map_or (end_answer s) t (refusal s))
    by_table None = refusal-flat s
    by_table (Some t) = λ i. record { text = verdict-flat t i; state = record s { table = None } }

-- the answer to a line, of which this was read
pub answer_to-flat : (s : State) (line : Option (List ℕ)) (read : Option Statement) → read ≡ option_map flat_statement (statement_of (is_some (flat_state s).table) line) →
    option_map_or (answer_of (in_next_line (flat_state s))) read (refusal (in_next_line (flat_state s))) ≡ flat_answer (answer_to s line)
answer_to-flat s line read is =
    ap (λ r. option_map_or (answer_of (in_next_line (flat_state s))) r (refusal (in_next_line (flat_state s))))
    (is ∙ ap (λ b. option_map flat_statement (statement_of b line)) (by_table s.table))
    ∙ by_statement (statement_of (is_some s.table) line)
  where
    by_table : (t : Option Table) → is_some (option_map flat_table t) ≡ is_some t
    by_table None = refl
    by_table (Some t) = refl

    by_statement : (said : Option Statement) →
        option_map_or (answer_of (in_next_line (flat_state s))) (option_map flat_statement said) (refusal (in_next_line (flat_state s)))
        ≡ flat_answer (option_map_or (answer_of (in_next_line s)) said (refusal (in_next_line s)))
    by_statement None = refusal-flat (in_next_line s)
    by_statement (Some statement) = answer_of-flat (in_next_line s) statement

-- the answer to the end of an input
pub answer_to_end-flat : (s : State) → answer_to_end (flat_state s) ≡ flat_answer (answer_to_end s)
answer_to_end-flat s = by_table s.table
  where
    by_table : (t : Option Table) → answer_to_end (flat_state (record s { table = t })) ≡ flat_answer (answer_to_end (record s { table = t }))
    by_table None = refl
    by_table (Some t) = refl
