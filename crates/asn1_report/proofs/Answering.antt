-- The reporter gives the answer of the definition.
use Rattle.std.proofs.Common.{◌≡◌, ℕ, Bool, List, [], ◌++◌, length, Option, None, Some, option_map, refl, sym, ap, ◌∙◌}
use Rattle.std.specs.Prelude.{is_some}
use Rattle.std.specs.Option.{option_map_or}
use Rattle.asn1_tags.specs.Tags.{distinct, smallest}
use Rattle.asn1_tags.specs.Trees.{leaves}
use Rattle.asn1_tags.specs.declared.tags.Tag.{Tag}
use Rattle.asn1_clash.specs.Views.{tree_view}
use Rattle.asn1_clash.specs.declared.flat_tree.FlatTree.{FlatTree}
use Rattle.asn1_clash.proofs.Flat.{leaves-flat_tree}
use Rattle.asn1_report.specs.Flattened.{Gives, HasAnswered, flat_state, flat_statement}
use Rattle.asn1_report.specs.Report.{State, answer_of, answer_to, in_next_line, refusal}
use Rattle.asn1_report.specs.Views.{state_view, table_view}
use Rattle.asn1_report.specs.Statements.{Statement, statement_of}
use Rattle.asn1_report.specs.Texts.{tree_verdict, verdict_of}
use Rattle.asn1_report.specs.declared.reporter.Reporter.{Reporter}
use Rattle.asn1_report.specs.declared.table.Table as declared
use Rattle.asn1_report.proofs.Flattening.{answer_to-flat}

is_some-seen : (t : Option declared.Table) → is_some t ≡ is_some (option_map table_view t)
is_some-seen None = refl
is_some-seen (Some t) = refl

-- what is given for what was read of a line is the answer to the line
pub answered : (s : State) (line : Option (List ℕ)) (old mid new : Reporter) (in_table : Bool) (read : Option Statement) → state_view old ≡ flat_state s →
    in_table ≡ is_some old.table → read ≡ option_map flat_statement (statement_of in_table line) →
    mid.text.items ≡ [] → state_view mid ≡ in_next_line (state_view old) →
    Gives (option_map_or (answer_of (state_view mid)) read (refusal (state_view mid))) mid new → HasAnswered (answer_to s line) new
answered s line old mid new in_table read stands is_in_table is empty next gives =
    let in_table_there : in_table ≡ is_some (flat_state s).table = is_in_table ∙ (is_some-seen old.table ∙ ap (λ state. is_some state.table) stands) in
    let here : state_view mid ≡ in_next_line (flat_state s) = next ∙ ap in_next_line stands in
    let same =
    ap (λ state. option_map_or (answer_of state) read (refusal state)) here
    ∙ answer_to-flat s line read (is ∙ ap (λ b. option_map flat_statement (statement_of b line)) in_table_there) in
    record {
      text = gives.text ∙ (λ i. empty i ++ (same i).text);
      state = gives.state ∙ ap (λ answer. answer.state) same;
    }

-- the verdict on a tree is that on its leaves
pub tree_said : (tree : FlatTree) (tags : List Tag) (unique : Bool) (tag : Tag) (count : ℕ) → tags ≡ tree.tags.items → unique ≡ distinct tags → tag ≡ smallest tags →
    count ≡ length tags → verdict_of unique tag count ≡ tree_verdict (leaves (tree_view tree))
tree_said tree tags unique tag count same is_unique is_smallest is_count =
    (λ i. verdict_of (is_unique i) (is_smallest i) (is_count i)) ∙ ap tree_verdict (same ∙ sym (leaves-flat_tree tree.tags.items tree.has_empty_choice))
