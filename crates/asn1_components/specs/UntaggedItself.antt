-- A CHOICE that holds itself without a tag, as a component of a SEQUENCE or a SET among its own alternatives. It begins there
-- with a tag of one of its alternatives (X.680, 8.6), so its neighbours have to differ from these alone (X.680, 25.6 and 27.3).
use Rattle.std.specs.Prelude.{ℕ, ⊤, List}
use Rattle.asn1_tags.specs.Trees.{Trees, choice}
use Rattle.asn1_model.specs.Meaning.{Meaning}
use Rattle.asn1_model.specs.RecordTables.{Row, Table, no_table}
use Rattle.asn1_model.specs.Tags.{Has, first_tag, tree_tags}
use Rattle.asn1_components.specs.Alternatives.{Alternatives, OneOf, MeansTheSame, ValueMeaning, all_of, chosen_meaning, no_meaning, trees_of}
use Rattle.asn1_components.specs.ChoiceTypes.{choice_by, choice_by_meanings, inside_itself, table_with_itself}

-- the trees of its alternatives, which do not depend on the meaning of values
abbrev pub trees_with_itself : {V : Type 0} → List ℕ → (Meaning V → Alternatives) → Trees
trees_with_itself name alternatives_with =
    trees_of (all_of (alternatives_with (inside_itself name no_table (λ _. no_meaning))))

-- The meaning of a value that begins with a tag of one of these trees.
pub record MeaningWithin (trees : Trees) : Type 1 where
  pub meaning : ValueMeaning
  pub within : Has (tree_tags (choice trees)) (first_tag meaning.records)

-- The meaning of the CHOICE to its own alternatives, by its author's meaning of each value.
abbrev pub untagged_inside_itself : {V : Type 0} → List ℕ → Table Row → (trees : Trees) →
    (V → MeaningWithin trees) → Meaning V
untagged_inside_itself name table trees means =
    choice_by name table trees ⊤ (λ v. (means v).meaning) (λ _ v. (means v).within)

-- Its alternatives, which speak of it so.
abbrev pub alternatives_with_untagged_itself : {V : Type 0} (name : List ℕ)
    (alternatives_with : Meaning V → Alternatives) →
    (V → MeaningWithin (trees_with_itself name alternatives_with)) → Alternatives
alternatives_with_untagged_itself name alternatives_with means = alternatives_with
    (untagged_inside_itself name (table_with_itself name alternatives_with)
    (trees_with_itself name alternatives_with) means)

-- And this is what it means to all others.
abbrev pub choice_holding_untagged_itself : {V : Type 0} (name : List ℕ)
    (alternatives_with : Meaning V → Alternatives)
    (means : V → MeaningWithin (trees_with_itself name alternatives_with))
    (pick : V → OneOf (all_of (alternatives_with_untagged_itself name alternatives_with means))) →
    ((v : V) → MeansTheSame (means v).meaning
    (chosen_meaning (all_of (alternatives_with_untagged_itself name alternatives_with means)) (pick v))) → Meaning V
choice_holding_untagged_itself name alternatives_with means pick agree = choice_by_meanings name
    (alternatives_with_untagged_itself name alternatives_with means) pick (λ v. (means v).meaning) agree
