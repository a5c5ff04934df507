-- What a type that holds itself says of itself: its cases, and what it is inside itself.
use Rattle.std.specs.Prelude.{◌≡◌, ℕ, Bool, List, Some, refl}
use Rattle.std.specs.Global.{Box}
use Rattle.asn1_model.specs.Kinds.{under_own_name, wrapper_type}
use Rattle.asn1_components.specs.Alternatives.{Alternative, Alternatives, CanBeChosen, Each, MeansTheSame, OneOf, ValueMeaning, all_of, chosen, chosen_meaning, means_itself, table_of, trees_of}
use Rattle.std.proofs.Common.{ap, subst, sym}
use Rattle.asn1_model.specs.Composites.{choice_records}
use Rattle.asn1_model.specs.ConstraintSets.{ConstraintSet, unconstrained}
use Rattle.asn1_model.specs.Tags.{first_tag}
use Rattle.asn1_model.specs.Meaning.{Meaning}
use Rattle.asn1_model.specs.Readings.{IsReadAsChoice}
use Rattle.asn1_model.specs.Records.{Name, Record}
use Rattle.asn1_components.specs.ChoiceTypes.{alternatives_with_itself, choice_holding_itself, inside_itself, table_with_itself}
use Rattle.asn1_slots.specs.Cases.{Case, alternatives_of}
use Rattle.asn1_tags.specs.declared.tags.Tag.{Tag}

-- These cases have these alternatives: the same trees, and of each value the same meaning.
pub record AreCasesOf {V : Type 0} (cases : List (Case V)) (case_of : V → OneOf (alternatives_of cases))
    (alts : List Alternative) (pick : V → OneOf alts) : Type 0 where
  pub trees : trees_of alts ≡ trees_of (alternatives_of cases)
  pub can : Each CanBeChosen alts → Each CanBeChosen (alternatives_of cases)
  pub tree : (v : V) → (chosen alts (pick v)).type.tree ≡ (chosen (alternatives_of cases) (case_of v)).type.tree
  pub means : (v : V) → MeansTheSame (chosen_meaning (alternatives_of cases) (case_of v)) (chosen_meaning alts (pick v))

-- the cases of which the alternatives are made
pub its_cases : {V : Type 0} {cases : List (Case V)} {case_of : V → OneOf (alternatives_of cases)} →
    AreCasesOf cases case_of (alternatives_of cases) case_of
its_cases = record { trees = refl; can = λ can. can; tree = λ _. refl; means = λ _. means_itself }

-- A type has the same records inside itself as elsewhere, of values that are valid there too, and what is read as a value is read
-- as one there.
pub record IsInside {V : Type 0} (inside m : Meaning V) : Type 0 where
  pub single : m.IsSingleRecord
  pub records : (v : V) (t : Tag) (c : ConstraintSet) (n : Name) → inside.records v t c n ≡ m.records v t c n
  pub read : (v : V) (t : Tag) (c : ConstraintSet) (rs : List Record) → m.IsReadAs v t c rs → inside.IsReadAs v t c rs
  pub of_type : (v : V) → inside.IsOfType v → m.IsOfType v
  pub valid : (accepts : List ℕ → Bool) (v : V) → inside.IsValid accepts v → m.IsValid accepts v
  pub constraints : inside.constraints ≡ m.constraints

-- what a CHOICE that holds itself is inside itself
pub itself_inside : {V : Type 0} (name : List ℕ) (alternatives_with : Meaning V → Alternatives) (means : V → ValueMeaning)
    (pick : V → OneOf (all_of (alternatives_with_itself name alternatives_with means)))
    (agree : (v : V) → MeansTheSame (means v) (chosen_meaning (all_of (alternatives_with_itself name alternatives_with means)) (pick v))) →
    table_with_itself name alternatives_with ≡ table_of (alternatives_with_itself name alternatives_with means) →
    IsInside (inside_itself name (table_with_itself name alternatives_with) means) (choice_holding_itself name alternatives_with means pick agree)
itself_inside name alternatives_with means pick agree same = record {
  single = tt;
  records = λ v t c n. ap (λ table. choice_records (first_tag (means v).records) table (means v).records unconstrained (Some name) t c n) same;
  read = λ v t c rs. subst (λ table. IsReadAsChoice (λ w. (means w).AreReadAs) table unconstrained t c v rs) (sym same);
  of_type = λ _ h. h;
  valid = λ _ _ h. h;
  constraints = refl;
}

-- a type in a box, which means the same
abbrev pub in_box : {V : Type 0} → Meaning V → Meaning (Box V)
in_box m = under_own_name (wrapper_type (λ b. b.value) m)

-- boxes are equal if what they hold is
abbrev pub eq_in_box : {V : Type 0} → (V → V → Bool) → Box V → Box V → Bool
eq_in_box eq one other = eq one.value other.value
