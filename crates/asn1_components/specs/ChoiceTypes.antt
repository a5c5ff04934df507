-- The meaning of a CHOICE, by its alternatives.
use Rattle.std.specs.Prelude.{◌≡◌, ◌↔◌, ℕ, ⊤, Bool, true, false, List, Some, refl}
use Rattle.std.proofs.Common.{ap, sym, subst}
use Rattle.asn1_tags.specs.declared.tags.Tag.{Tag}
use Rattle.asn1_tags.specs.Tags.{tag_eq}
use Rattle.asn1_tags.specs.Trees.{Trees, choice, none}
use Rattle.asn1_model.specs.ConstraintSets.{ConstraintSet, unconstrained}
use Rattle.asn1_model.specs.WellFormed.{well_formed_choice}
use Rattle.asn1_model.specs.Readings.{IsReadAsAlternative, IsReadAsChoice, IsReadIfUntagged, Reading, reads_own_choice}
use Rattle.asn1_model.specs.Records.{Name, Record}
use Rattle.asn1_model.specs.RecordTables.{Row, Table, no_table}
use Rattle.asn1_model.specs.Tags.{CHOICE, Has, first_tag, tree_tags}
use Rattle.asn1_model.specs.Composites.{choice_records}
use Rattle.asn1_model.specs.Meaning.{Meaning}
use Rattle.asn1_model.specs.Kinds.{choice_tree, choice_type}
use Rattle.asn1_components.specs.Alternatives.{Alternatives, OneOf, Each, CanBeChosen, HaveDistinctTags, MeansTheSame, ValueMeaning, all_of, no_meaning, means_itself, table_of, trees_of, chosen_meaning}
use Rattle.asn1_components.specs.ChosenTags.{chosen_tag, chosen_is_among}

-- A CHOICE (X.680, 29) by its name, the table and the trees of its alternatives, whether they can be chosen, and what the
-- chosen one says of each value.
abbrev pub choice_by : {V : Type 0} → List ℕ → Table Row → (alternatives : Trees) →
    (CanChoose : Type 0) → (means : V → ValueMeaning) →
    (CanChoose → (v : V) → Has (tree_tags (choice alternatives)) (first_tag (means v).records)) → Meaning V
choice_by name table alternatives CanChoose means is_among = choice_type (Some name) unconstrained
    (record {
      records = λ v. (means v).records;
      AreReadAs = λ v. (means v).AreReadAs;
      read_own = λ v. (means v).read_own;
      IsWellTagged = CanChoose;
      AreOfType = λ v. (means v).IsOfType;
      AreValid = λ accepts v. (means v).IsValid accepts;
      well_formed = λ accepts v. (means v).well_formed accepts;
    })
    (record { table = table; alternatives = alternatives; among = is_among })

module _ {V : Type 0} (name : List ℕ) (alts : Alternatives) (pick : V → OneOf (all_of alts)) where
  -- A CHOICE of these alternatives, by the meaning of each value, which agrees with that of the chosen one.
  abbrev pub choice_by_meanings : (means : V → ValueMeaning) →
      ((v : V) → MeansTheSame (means v) (chosen_meaning (all_of alts) (pick v))) → Meaning V
  choice_by_meanings means agree = choice_by name (table_of alts) (trees_of (all_of alts))
      (Each CanBeChosen (all_of alts)) means
      (λ can v. subst (λ rs. Has (tree_tags (choice (trees_of (all_of alts)))) (first_tag rs)) (sym (agree v).records) (chosen_is_among (all_of alts) can (pick v)))

  -- the same by which of them a value is
  abbrev pub choice_of : Meaning V
  choice_of = choice_by_meanings (λ v. chosen_meaning (all_of alts) (pick v)) (λ _. means_itself)

-- The meaning of a CHOICE that holds itself to its own alternatives, without any premise. There it has to be under a tag:
-- without one it may begin with every tag, and so is no alternative.
abbrev pub inside_itself : {V : Type 0} → List ℕ → Table Row → (V → ValueMeaning) → Meaning V
inside_itself name table means = choice_by name table none ⊤ means (λ _ _. tt)

-- The table of a CHOICE that holds itself, by its alternatives beside what it is to them: the table rests on nothing that it
-- says of values.
abbrev pub table_with_itself : {V : Type 0} → List ℕ → (Meaning V → Alternatives) → Table Row
table_with_itself name alternatives_with =
    table_of (alternatives_with (inside_itself name no_table (λ _. no_meaning)))

-- The alternatives of a CHOICE that holds itself, by what its author says of each value, by recursion on it.
abbrev pub alternatives_with_itself : {V : Type 0} → List ℕ → (Meaning V → Alternatives) →
    (V → ValueMeaning) → Alternatives
alternatives_with_itself name alternatives_with means =
    alternatives_with (inside_itself name (table_with_itself name alternatives_with) means)

-- And this is what it means to all others.
abbrev pub choice_holding_itself : {V : Type 0} (name : List ℕ)
    (alternatives_with : Meaning V → Alternatives) (means : V → ValueMeaning)
    (pick : V → OneOf (all_of (alternatives_with_itself name alternatives_with means))) →
    ((v : V) → MeansTheSame (means v)
    (chosen_meaning (all_of (alternatives_with_itself name alternatives_with means)) (pick v))) → Meaning V
choice_holding_itself name alternatives_with means pick agree =
    choice_by_meanings name (alternatives_with_itself name alternatives_with means) pick means agree

-- the meaning of a value as the alternative that is the CHOICE itself under this tag, by its meaning in the CHOICE
abbrev pub itself_under : List ℕ → Table Row → Tag → ValueMeaning → ValueMeaning
itself_under name table t meaning = record meaning {
  records = choice_records (first_tag meaning.records) table meaning.records unconstrained (Some name) t
      unconstrained (Some name);
  AreReadAs = IsReadAsChoice (λ (_ : ⊤). meaning.AreReadAs) table unconstrained t unconstrained tt;
  read_own = reads_own_choice (λ (_ : ⊤). meaning.AreReadAs) (λ _. meaning.records) (λ _. meaning.read_own) table unconstrained (Some name) t unconstrained (Some name) tt;
  well_formed = λ accepts valid. well_formed_choice accepts table meaning.records unconstrained (Some name) t
      unconstrained (Some name) (meaning.well_formed accepts valid);
}

-- The law of a CHOICE type: its meaning is that of its alternatives. Its tags are theirs. Each value is there, and has the
-- records of the chosen alternative, which also decides whether it meets its invariant and whether it is valid. The type is
-- well tagged if and only if the alternatives have distinct tags and can be chosen.
pub record AgreesWithChoice {V : Type 0} (alts : Alternatives) (pick : V → OneOf (all_of alts)) (m : Meaning V) : Type 0 where
  pub tag : m.tag ≡ CHOICE
  pub tree : (t : Tag) → m.tree t ≡ choice_tree (choice (trees_of (all_of alts))) t
  pub records : (v : V) (t : Tag) (c : ConstraintSet) (n : Name) →
      m.records v t c n ≡ choice_records (chosen_tag (all_of alts) (pick v)) (table_of alts) (chosen_meaning (all_of alts) (pick v)).records m.constraints m.name t c n
  pub read : (v : V) (t : Tag) (c : ConstraintSet) (rs : List Record) →
      m.IsReadAs v t c rs ↔ IsReadAsChoice (λ w. (chosen_meaning (all_of alts) (pick w)).AreReadAs) (table_of alts) m.constraints t c v rs
  pub single : m.IsSingleRecord
  pub present : (v : V) → m.is_present v ≡ true
  pub distinct_tags : (t : Tag) → m.HasDistinctTags t ↔ (HaveDistinctTags (all_of alts) × Each CanBeChosen (all_of alts))
  pub of_type : (v : V) → m.IsOfType v ↔ (chosen_meaning (all_of alts) (pick v)).IsOfType
  pub valid : (accepts : List ℕ → Bool) (v : V) → m.IsValid accepts v ↔ (chosen_meaning (all_of alts) (pick v)).IsValid accepts

-- The same is read as an alternative, and as a CHOICE, where the same is read inside.
module _ {V : Type 0} (one other : Reading V) (v : V) (same : (rs : List Record) → one v rs ↔ other v rs) (table : Table Row) (c : ConstraintSet) where
  same_alternative_read : (rs : List Record) → IsReadAsAlternative one table c v rs ↔ IsReadAsAlternative other table c v rs
  same_alternative_read rs = (
    λ (n, chosen, items, are, begins, is). (n, chosen, items, (same items).0 are, begins, is),
    λ (n, chosen, items, are, begins, is). (n, chosen, items, (same items).1 are, begins, is),
  )

same_read_if_untagged : {V : Type 0} (one other : Reading V) (v : V) → ((rs : List Record) → one v rs ↔ other v rs) →
    (table : Table Row) (own : ConstraintSet) (t : Tag) (c : ConstraintSet) (rs : List Record) (untagged : Bool) →
    IsReadIfUntagged one untagged table own t c v rs ↔ IsReadIfUntagged other untagged table own t c v rs
same_read_if_untagged one other v same table own t c rs true = same_alternative_read one other v same table c rs
same_read_if_untagged one other v same table own t c rs false = (
  λ (n, inside, are, is). (n, inside, (same_alternative_read one other v same table own inside).0 are, is),
  λ (n, inside, are, is). (n, inside, (same_alternative_read one other v same table own inside).1 are, is),
)

-- the law holds of a CHOICE that holds itself
pub itself_agrees : {V : Type 0} {name : List ℕ} {alts : Alternatives} {pick : V → OneOf (all_of alts)} {means : V → ValueMeaning} →
    (agree : (v : V) → MeansTheSame (means v) (chosen_meaning (all_of alts) (pick v))) →
    AgreesWithChoice alts pick (choice_by_meanings name alts pick means agree)
itself_agrees {name = name} {alts = alts} {pick = pick} {means = means} agree = record {
  tag = refl;
  tree = λ _. refl;
  records = λ v t c n. ap
      (λ rs. choice_records (first_tag rs) (table_of alts) rs unconstrained (Some name) t c n)
      (agree v).records;
  read = λ v t c rs. same_read_if_untagged (λ w. (means w).AreReadAs) (λ w. (chosen_meaning (all_of alts) (pick w)).AreReadAs) v (agree v).read
      (table_of alts) unconstrained t c rs (tag_eq t CHOICE);
  single = tt;
  present = λ _. refl;
  distinct_tags = λ _. (λ h. h, λ h. h);
  of_type = λ v. (agree v).of_type;
  valid = λ accepts v. (agree v).valid accepts;
}

-- and of every other
pub choice_agrees : {V : Type 0} {name : List ℕ} {alts : Alternatives} {pick : V → OneOf (all_of alts)} → AgreesWithChoice alts pick (choice_of name alts pick)
choice_agrees = itself_agrees (λ _. means_itself)
