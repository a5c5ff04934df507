-- Calls that read values of a type.
use Rattle.std.specs.Prelude.{◌≡◌, ◌≤◌, ℕ, Bool, true, false, List, [], ◌∷◌, All, IsPermutation, IsTrue, None, Option, IfSome, Result, length}
use Rattle.std.specs.List.{flat_map}
use Rattle.std.specs.Option.{option_eq, option_map}
use Rattle.asn1_tags.specs.Trees.{choice}
use Rattle.asn1_tags.specs.declared.tags.Tag.{Tag}
use Rattle.asn1_components.specs.Alternatives.{Alternatives, CanBeChosen, Each, HaveDistinctTags, OneOf, all_of, chosen, chosen_meaning, table_of}
use Rattle.asn1_components.specs.ChosenTags.{SelectsSameAlternative, chosen_tag}
use Rattle.asn1_components.specs.ComponentLists.{CanBeInSequence, EachIsWellTagged, EachIsOfType, EachIsValid, trees_of}
use Rattle.asn1_components.specs.Components.{AreDistinctIn, Components, Kind, all_components, component_records, head_of_kind, rows}
use Rattle.asn1_components.specs.Following.{EndsApart}
use Rattle.asn1_model.specs.Composites.{alternative_records, default_records, group_records, option_records}
use Rattle.asn1_model.specs.ConstraintSets.{ConstraintSet}
use Rattle.asn1_model.specs.Meaning.{Meaning, IsWellTagged, own_records}
use Rattle.asn1_model.specs.Records.{Content, Head, Name, Record, Side, absent, alternative, highest, holding, open_type, present, presence_marks_alone, scalar, set}
use Rattle.asn1_model.specs.Tags.{Has, IsOneRecord, ShareNone, first_tags, only, tree_tags}
use Rattle.asn1_laws.specs.GivenTypes.{Named}
use Rattle.asn1_laws.specs.Reading.{Advances, Outside, Reader, ReadsBack, ReadsHeadOver, TellsPresence, records_in}
use Rattle.asn1_laws.specs.SetParts.{ArePartsOf, CanBeInSet}
use Rattle.asn1_laws.specs.declared.decode_error.DecodeError.{DecodeError}

module _ {D : Type 0} (R : Reader D) where
  -- A call that reads a content, under a tag, constraints and any name: of each that is of the
  -- type, it answers what `Is` holds of.
  abbrev pub ReadsContent : {X V : Type 0} → Tag → ConstraintSet → (X → Content) → (IsOfType : X → Type 0) → (V → X → Type 0) →
      D → D → Result V DecodeError → Type 0
  ReadsContent {X = X} t c content IsOfType Is old new result =
      (x : X) (n : Name) (rest : List Record) (outer : Outside) → IsOfType x →
      ReadsBack R old new (scalar t c n (content x) ∷ []) rest outer (λ w. Is w x) result

  -- A call that reads the bytes of an open type, of any name: of those that the codec accepts as
  -- one value, it answers what `Is` holds of.
  abbrev pub ReadsOpenType : {V : Type 0} → (V → List ℕ → Type 0) → D → D → Result V DecodeError → Type 0
  ReadsOpenType Is old new result =
      (bytes : List ℕ) (n : Name) (rest : List Record) (outer : Outside) → IsTrue (R.accepts bytes) →
      ReadsBack R old new (open_type n bytes ∷ []) rest outer (λ w. Is w bytes) result

  -- A call that opens a CHOICE of these alternatives (X.680, 29), which can be told apart, under
  -- constraints and any name. Inside is one record, which begins with the tag of the record around
  -- it. The call answers a tag that the chosen one can begin with, where that can begin with its own.
  abbrev pub ReadsHeadOfChoice : ConstraintSet → Alternatives → D → D → Result Tag DecodeError → Type 0
  ReadsHeadOfChoice c alternatives old new result =
      (tag : Tag) → HaveDistinctTags (all_of alternatives) → Each CanBeChosen (all_of alternatives) →
      ReadsHeadOver R old new (alternative tag c (table_of alternatives)) (IsOneRecord (only tag))
      (λ _ answered. SelectsSameAlternative tag answered (all_of alternatives)) result

module _ {D : Type 0} (R : Reader D) {V : Type 0} where
  -- A call that reads a value of a well-tagged type, under any name: of each that is of the type
  -- and valid, it answers one that is equal.
  abbrev pub Reads : {W : Type 0} → Named V → (W → V → Bool) → D → D → Result W DecodeError → Type 0
  Reads type eq old new result =
      (v : V) (n : Name) (rest : List Record) (outer : Outside) →
      (type n).IsWellTagged → (type n).IsOfType v → (type n).IsValid R.accepts v →
      ReadsBack R old new ((type n).records v) rest outer (λ w. eq w v ≡ true) result

  -- A call that tells whether a component of this type is there, on this side of the extension
  -- marker, and goes past the presence mark that says so.
  abbrev pub TellsIfThere : Side → Named V → D → D → Result Bool DecodeError → Type 0
  TellsIfThere side type old new result =
      (n : Name) → TellsPresence R old new (present side (type n).tag) (absent side (type n).tag) (tree_tags (type n).tree) result

  -- A call that reads a component that may be absent, on this side of the extension marker (X.680,
  -- 25.1). After an absent one the list begins with none of its tags.
  abbrev pub ReadsOptional : Side → Named V → (V → V → Bool) → D → D → Result (Option V) DecodeError → Type 0
  ReadsOptional side type eq old new result =
      (v : Option V) (n : Name) (rest : List Record) (outer : Outside) →
      (type n).IsWellTagged → IfSome v (type n).IsOfType → IfSome v ((type n).IsValid R.accepts) →
      (v ≡ None → ShareNone (tree_tags (type n).tree) (first_tags rest)) →
      ReadsBack R old new (option_records side (type n).tag (option_map (type n).records v)) rest outer (λ w. option_eq eq w v ≡ true) result

  -- A call that reads a component with a default (X.680, 25.5), where each value that may be the
  -- default compares with the value alike: it is absent where it equals the default. Of an absent
  -- one nothing is asked, but that what follows begins with none of its tags.
  abbrev pub ReadsDefault : Side → Named V → (IsDefault : V → Type 0) → (V → V → Bool) → D → D → Result V DecodeError → Type 0
  ReadsDefault side type IsDefault eq old new result =
      (v : V) (equal : Bool) (n : Name) (rest : List Record) (outer : Outside) →
      ((default_value : V) → IsDefault default_value → eq v default_value ≡ equal) →
      (type n).IsWellTagged → (equal ≡ false → (type n).IsOfType v) → (equal ≡ false → (type n).IsValid R.accepts v) →
      (equal ≡ true → ShareNone (tree_tags (type n).tree) (first_tags rest)) →
      ReadsBack R old new (default_records side equal (type n).tag ((type n).records v)) rest outer (λ w. eq w v ≡ true) result

  -- A call that reads a SEQUENCE or a SET, by its components (X.680, 25 and 27), under a tag and
  -- any name.
  abbrev pub ReadsComponents : Kind → Tag → Components V → (V → V → Bool) → D → D → Result V DecodeError → Type 0
  ReadsComponents kind t components eq old new result =
      (v : V) (n : Name) (rest : List Record) (outer : Outside) →
      EachIsWellTagged (all_components components) × AreDistinctIn kind (all_components components) →
      EachIsOfType (all_components components) v → EachIsValid (all_components components) R.accepts v →
      ReadsBack R old new (holding (head_of_kind kind t (rows components) n) (component_records components v) ∷ []) rest outer (λ w. eq w v ≡ true) result

  -- A call that reads what a SEQUENCE or a group holds: its components, in the order of their
  -- definition. The rest of the list begins with no tag of those after the last required one.
  abbrev pub ReadsFields : Components V → (V → V → Bool) → D → D → Result V DecodeError → Type 0
  ReadsFields components eq old new result =
      (v : V) (rest : List Record) (outer : Outside) →
      CanBeInSequence (all_components components) → EachIsOfType (all_components components) v →
      EachIsValid (all_components components) R.accepts v → EndsApart (all_components components) rest →
      ReadsBack R old new (component_records components v) rest outer (λ w. eq w v ≡ true) result

  -- A call that reads a group of additions (25.1), which may be absent. One that is there writes a
  -- component. The rest of the list begins with no tag of its components.
  abbrev pub ReadsGroup : Components V → (V → V → Bool) → D → D → Result (Option V) DecodeError → Type 0
  ReadsGroup components eq old new result =
      (v : Option V) (rest : List Record) (outer : Outside) →
      CanBeInSequence (all_components components) → IfSome v (EachIsOfType (all_components components)) →
      IfSome v (λ w. EachIsValid (all_components components) R.accepts w × (presence_marks_alone (component_records components w) ≡ false)) →
      ShareNone (tree_tags (choice (trees_of (all_components components)))) (first_tags rest) →
      ReadsBack R old new (group_records (rows components) (option_map (component_records components) v)) rest outer
      (λ w. option_eq eq w v ≡ true) result

  -- A call that reads a CHOICE by its chosen alternative (29), where its alternatives can be told
  -- apart, under constraints and any name.
  abbrev pub ReadsChoice : ConstraintSet → (alternatives : Alternatives) → (V → OneOf (all_of alternatives)) → (V → V → Bool) →
      D → D → Result V DecodeError → Type 0
  ReadsChoice c alternatives pick eq old new result =
      (v : V) (n : Name) (rest : List Record) (outer : Outside) →
      HaveDistinctTags (all_of alternatives) → Each CanBeChosen (all_of alternatives) →
      (chosen_meaning (all_of alternatives) (pick v)).IsOfType → (chosen_meaning (all_of alternatives) (pick v)).IsValid R.accepts →
      ReadsBack R old new
      (alternative_records (chosen_tag (all_of alternatives) (pick v)) c (table_of alternatives) n
      (chosen_meaning (all_of alternatives) (pick v)).records)
      rest outer (λ w. eq w v ≡ true) result

  -- A call that reads what a CHOICE holds: the chosen alternative, which can begin with this tag.
  abbrev pub ReadsAlternative : Tag → (alternatives : Alternatives) → (V → OneOf (all_of alternatives)) → (V → V → Bool) →
      D → D → Result V DecodeError → Type 0
  ReadsAlternative t alternatives pick eq old new result =
      (v : V) (rest : List Record) (outer : Outside) →
      HaveDistinctTags (all_of alternatives) → Each CanBeChosen (all_of alternatives) →
      (chosen_meaning (all_of alternatives) (pick v)).IsOfType → (chosen_meaning (all_of alternatives) (pick v)).IsValid R.accepts →
      Has (tree_tags (chosen (all_of alternatives) (pick v)).type.tree) t →
      ReadsBack R old new (chosen_meaning (all_of alternatives) (pick v)).records rest outer (λ w. eq w v ≡ true) result

  -- A call that reads a SEQUENCE OF or a SET OF (26 and 28), by its head and its elements, under
  -- any name.
  abbrev pub ReadsElements : {W : Type 0} → (Name → Head) → Meaning V → (W → List V → Bool) → D → D → Result W DecodeError → Type 0
  ReadsElements head m eq old new result =
      (vs : List V) (n : Name) (rest : List Record) (outer : Outside) →
      IsWellTagged m → All m.IsOfType vs → All (m.IsValid R.accepts) vs →
      ReadsBack R old new (holding (head n) (flat_map (own_records m) vs) ∷ []) rest outer (λ w. eq w vs ≡ true) result

  -- A call that reads the elements that are left in the innermost scope, of which there are at most
  -- this many.
  abbrev pub ReadsElementsLeft : {W : Type 0} → ℕ → Meaning V → (W → List V → Bool) → D → D → Result W DecodeError → Type 0
  ReadsElementsLeft bound m eq old new result =
      (vs : List V) (scope : Head × List Record) (outer : Outside) →
      IsWellTagged m → All m.IsOfType vs → All (m.IsValid R.accepts) vs → length vs ≤ bound →
      Advances R old new (highest (flat_map (own_records m) vs)) (flat_map (own_records m) vs, scope ∷ outer) ([], scope ∷ outer)
      (λ w. eq w vs ≡ true) result

  -- A call that reads the components that are left in a SET, of which there are at most this many
  -- records, in any order: of each value that is of its type and valid, this holds of its answer.
  abbrev pub ReadsSetLeft : {W : Type 0} → ℕ → Components V → (V → W → Type 0) → D → D → Result W DecodeError → Type 0
  ReadsSetLeft bound components Is old new result =
      (v : V) (t : Tag) (n : Name) (items rest : List Record) (outer : Outside) →
      CanBeInSet (all_components components) → EachIsOfType (all_components components) v →
      EachIsValid (all_components components) R.accepts v →
      IsPermutation items (component_records components v) → records_in items ≤ bound →
      Advances R old new (highest items) (items, (set t (rows components) n, rest) ∷ outer) ([], (set t (rows components) n, rest) ∷ outer)
      (Is v) result

  -- the same of a call that reads them as parts
  abbrev pub ReadsPartsLeft : {P W : Type 0} → ℕ → Components V → (P → ℕ) → (V → P → Type 0) → (W → List P) →
      D → D → Result W DecodeError → Type 0
  ReadsPartsLeft bound components index_of IsPartOf parts_in old new result =
      ReadsSetLeft bound components (λ v w. ArePartsOf (all_components components) v index_of (IsPartOf v) (parts_in w)) old new result
