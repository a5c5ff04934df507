-- A group of additions of a SET (X.680, 25.1 and 27): its components come one by one, in any order among the others.
use Rattle.std.specs.Prelude.{◌≡◌, ◌≢◌, ◌<◌, ◌⊎◌, ◌&&◌, ⊤, IsPermutation, ℕ, zero, suc, Bool, true, false, not, IsTrue, List, [], ◌∷◌, ◌++◌, length, Option, None, Some, IfSome, OnOk, Result, Ok, Err, refl, if◌then◌else◌}
use Rattle.std.proofs.Common.{◌∙◌, ◌+◌, ◌≤◌, ap, append-nil, arith, inl, inr, subst, sym}
use Rattle.std.proofs.lemmas.Bool.{and_parts}
use Rattle.std.specs.Option.{option_eq, option_map}
use Rattle.asn1_components.proofs.DistinctSets.{groups_distinct}
use Rattle.asn1_components.proofs.WrittenAlike.{groups_alike}
use Rattle.asn1_components.proofs.PartsApart.{apart_if_closed, each_is_distinct}
use Rattle.asn1_components.specs.ComponentLists.{CanBeInSequence, EachCanBeOn, EachIsOfType, EachIsValid, EachIsWellTagged, IsReadAsGroup, all_records, group_fits, group_of, trees_of}
use Rattle.asn1_components.specs.ComponentTypes.{ComponentType, Fits}
use Rattle.asn1_components.specs.Components.{rows}
use Rattle.asn1_components.specs.Following.{AllApart, ApartFromEach}
use Rattle.asn1_fields.specs.declared.presence.FieldPresence.TheVariants.{Optional}
use Rattle.asn1_laws.proofs.ReadingSets.{unmarked-marks}
use Rattle.asn1_laws.proofs.ReadingSteps.{in_other_words}
use Rattle.asn1_laws.specs.Reading.{Outside, Reader, ReadsBack, records_in}
use Rattle.asn1_laws.specs.SetParts.{CanBeginWith, EachIsOneRecord, written_of}
use Rattle.asn1_laws.specs.declared.decode_error.DecodeError.{DecodeError}
use Rattle.asn1_model.proofs.TagSets.{has_first, has_later}
use Rattle.asn1_model.specs.Composites.{group_records}
use Rattle.asn1_model.specs.DistinctSets.{AreDistinct}
use Rattle.asn1_model.specs.Records.{Record, group_absent, group_end, group_start, in_root, open_type, presence_mark, presence_marks_alone, scalar, scope, unmarked}
use Rattle.asn1_model.specs.RecordTables.{Row, Table}
use Rattle.asn1_model.specs.Tags.{Has, tree_tags}
use Rattle.asn1_model.specs.WellFormed.{AreWellFormed}
use Rattle.asn1_model.specs.WrittenAlike.{HaveSameRecords}
use Rattle.asn1_tags.specs.Tags.{distinct}
use Rattle.asn1_tags.specs.Trees.{Tree, choice, is_any_open, leaves, more, none}
use Rattle.asn1_tags.specs.declared.tags.Tag.{Tag}
use Rattle.asn1_slots.specs.SlotsInStep.{each_is_one, each_well_tagged, hold_at_end, none_came, part_is_read, parts_apart, place_of, times_in_step, trees_in_parts, written_below, written_in_parts}
use Rattle.asn1_slots.specs.PartsInSets.{AreOwnParts, ReadInSet, one_more}
use Rattle.asn1_laws.proofs.ReadingWhole.{these_were_read, was_read_as}
use Rattle.asn1_laws.proofs.UnmarkedRecords.{unmarked-append}
use Rattle.asn1_laws.specs.ReadingExactly.{WasRead}
use Rattle.asn1_slots.specs.ComingInSets.{CanBePutInTurn}
use Rattle.asn1_slots.specs.SlotsComing.{added_at, comes_at, kept_have_come, none_have_come, read_in_any_order, slots_of_own}
use Rattle.std.proofs.lemmas.List.Sorted.{IsPermutation-refl}
use Rattle.asn1_slots.specs.Slots.{AllAreKept, AreEmpty, AreInStep, AreOf, ComesAt, HaveCome, HoldBefore, OthersAreKept, ReadsOnceAt, Slot, can_be_in_set, components_of, parts_of_slots, sequence_of_slots}

-- A tag of one of the components is one of a CHOICE of their trees.
begins_choice : {V : Type 0} (cs : List (ComponentType V)) (k : ℕ) (t : Tag) → CanBeginWith cs k t → Has (tree_tags (choice (trees_of cs))) t
begins_choice [] k t begins = absurd begins
begins_choice (c ∷ cs) zero t begins = has_first c.tree (trees_of cs) t begins
begins_choice (c ∷ []) (suc k) t begins = absurd begins
begins_choice (c ∷ d ∷ ds) (suc k) t begins = has_later c.tree d.tree (trees_of ds) t (begins_choice (d ∷ ds) k t begins)

-- the records of a component of a group that may be absent
abbrev pub where_some : {W : Type 0} → ComponentType W → Option W → List Record
where_some c None = []
where_some c (Some w) = c.records w

-- what is read as it
abbrev pub IsReadWhereSome : {W : Type 0} → ComponentType W → Option W → List Record → Type 0
IsReadWhereSome c None rs = rs ≡ []
IsReadWhereSome c (Some w) rs = c.IsReadAs w rs

pub where_some_read_own : {W : Type 0} (c : ComponentType W) (o : Option W) → IsReadWhereSome c o (where_some c o)
where_some_read_own c None = refl
where_some_read_own c (Some w) = c.reads_own w

pub fits_where_some : {W : Type 0} (c : ComponentType W) → c.IsWellTagged → (o : Option W) → Fits Optional c.tree (where_some c o)
fits_where_some c can None = inr (refl, refl)
fits_where_some c can (Some w) = elim (c.fits can w) [
  | inl begins ↦ inl begins
  | inr absent ↦ inr (refl, absent.1)
]

pub well_formed_where_some : {W : Type 0} (c : ComponentType W) (accepts : List ℕ → Bool) (o : Option W) → IfSome o (c.IsValid accepts) → AreWellFormed accepts (where_some c o)
well_formed_where_some c accepts None valid = tt
well_formed_where_some c accepts (Some w) valid = c.well_formed accepts w valid

-- A component of a group, as a part of what has the group.
abbrev pub in_group : {V W : Type 0} → (V → Option W) → ComponentType W → ComponentType V
in_group get c = record {
  name = c.name;
  CanBeOn = c.CanBeOn;
  presence = Optional;
  tag = c.tag;
  tree = c.tree;
  parts = more c.tree none;
  records = λ v. where_some c (get v);
  IsReadAs = λ v. IsReadWhereSome c (get v);
  reads_own = λ v. where_some_read_own c (get v);
  IsWellTagged = c.IsWellTagged;
  IsOfType = λ v. IfSome (get v) c.IsOfType;
  IsValid = λ accepts v. IfSome (get v) (c.IsValid accepts);
  fits = λ can v. fits_where_some c can (get v);
  well_formed = λ accepts v. well_formed_where_some c accepts (get v);
}

abbrev pub all_in_group : {V W : Type 0} → (V → Option W) → List (ComponentType W) → List (ComponentType V)
all_in_group get [] = []
all_in_group get (c ∷ cs) = in_group get c ∷ all_in_group get cs

module _ {V W : Type 0} (get : V → Option W) where
  begins_in_group : (cs : List (ComponentType W)) (k : ℕ) (t : Tag) → CanBeginWith (all_in_group get cs) k t → CanBeginWith cs k t
  begins_in_group [] k t begins = begins
  begins_in_group (c ∷ cs) zero t begins = begins
  begins_in_group (c ∷ cs) (suc k) t begins = begins_in_group cs k t begins

  trees_in_group : (cs : List (ComponentType W)) → trees_of cs ≡ trees_of (all_in_group get cs)
  trees_in_group [] = refl
  trees_in_group (c ∷ cs) = ap (more c.tree) (trees_in_group cs)

  own_in_group : (cs : List (ComponentType W)) → AreOwnParts (all_in_group get cs)
  own_in_group [] = tt
  own_in_group (c ∷ cs) = (refl, own_in_group cs)

  length_in_group : (cs : List (ComponentType W)) → length (all_in_group get cs) ≡ length cs
  length_in_group [] = refl
  length_in_group (c ∷ cs) = ap suc (length_in_group cs)

  apart_in_group : (tree : Tree) (cs : List (ComponentType W)) → ApartFromEach tree cs → ApartFromEach tree (all_in_group get cs)
  apart_in_group tree [] apart = tt
  apart_in_group tree (c ∷ cs) apart = (apart.0, apart_in_group tree cs apart.1)

  all_apart_in_group : (cs : List (ComponentType W)) → AllApart cs → AllApart (all_in_group get cs)
  all_apart_in_group [] apart = tt
  all_apart_in_group (c ∷ cs) apart = (apart_in_group c.tree cs apart.0, all_apart_in_group cs apart.1)

  well_tagged_in_group : (cs : List (ComponentType W)) → EachIsWellTagged cs → EachIsWellTagged (all_in_group get cs)
  well_tagged_in_group [] can = tt
  well_tagged_in_group (c ∷ cs) can = (can.0, well_tagged_in_group cs can.1)

  -- where the group is away, nothing of it is written
  none_one_each : (cs : List (ComponentType W)) (v : V) → get v ≡ None → EachIsOneRecord (all_in_group get cs) v
  none_one_each [] v nothing = tt
  none_one_each (c ∷ cs) v nothing = (subst (λ o. records_in (where_some c o) ≤ 1) (sym nothing) (omega arith), none_one_each cs v nothing)

  none_written : (cs : List (ComponentType W)) (v : V) (k : ℕ) → get v ≡ None → written_of (all_in_group get cs) v k ≡ []
  none_written [] v k nothing = refl
  none_written (c ∷ cs) v zero nothing = ap (λ o. unmarked (where_some c o)) nothing
  none_written (c ∷ cs) v (suc k) nothing = none_written cs v k nothing

  none_recorded : (cs : List (ComponentType W)) (v : V) → get v ≡ None → all_records (all_in_group get cs) v ≡ []
  none_recorded [] v nothing = refl
  none_recorded (c ∷ cs) v nothing = ap (λ o. where_some c o ++ all_records (all_in_group get cs) v) nothing ∙ none_recorded cs v nothing

  -- where it is there, its components are
  some_one_each : (cs : List (ComponentType W)) (v : V) (w : W) → get v ≡ Some w → EachIsOneRecord cs w → EachIsOneRecord (all_in_group get cs) v
  some_one_each [] v w some one = tt
  some_one_each (c ∷ cs) v w some one = (subst (λ o. records_in (where_some c o) ≤ 1) (sym some) one.0, some_one_each cs v w some one.1)

  some_written : (cs : List (ComponentType W)) (v : V) (w : W) (k : ℕ) → get v ≡ Some w → written_of (all_in_group get cs) v k ≡ written_of cs w k
  some_written [] v w k some = refl
  some_written (c ∷ cs) v w zero some = ap (λ o. unmarked (where_some c o)) some
  some_written (c ∷ cs) v w (suc k) some = some_written cs v w k some

  some_recorded : (cs : List (ComponentType W)) (v : V) (w : W) → get v ≡ Some w → all_records (all_in_group get cs) v ≡ all_records cs w
  some_recorded [] v w some = refl
  some_recorded (c ∷ cs) v w some = ap (λ o. where_some c o ++ all_records (all_in_group get cs) v) some ∙ ap (λ l. c.records w ++ l) (some_recorded cs v w some)

-- A list of records of which none is there but marks.
marks_if_unmarked : (rs : List Record) → unmarked rs ≡ [] → presence_marks_alone rs ≡ true
marks_if_unmarked [] nothing = refl
marks_if_unmarked (scalar t c n x ∷ rs) nothing = cc
marks_if_unmarked (scope h inner ∷ rs) nothing = cc
marks_if_unmarked (open_type n bytes ∷ rs) nothing = cc
marks_if_unmarked (presence_mark m ∷ rs) nothing = marks_if_unmarked rs nothing

none_of_any : {W : Type 0} (cs : List (ComponentType W)) (w : W) → ((k : ℕ) → written_of cs w k ≡ []) → unmarked (all_records cs w) ≡ []
none_of_any [] w nothing = refl
none_of_any (c ∷ cs) w nothing =
    unmarked-append (c.records w) (all_records cs w) ∙ ap (λ l. l ++ unmarked (all_records cs w)) (nothing 0) ∙ none_of_any cs w (λ k. nothing (suc k))

-- The records of a group without the marks.
unmarked_group : (table : Table Row) (rs : List Record) (b : Bool) → presence_marks_alone rs ≡ b →
    unmarked (if b then presence_mark (group_absent table) ∷ [] else presence_mark (group_start table) ∷ rs ++ presence_mark group_end ∷ []) ≡ unmarked rs
unmarked_group table rs true alone = sym (unmarked-marks rs alone)
unmarked_group table rs false alone = unmarked-append rs (presence_mark group_end ∷ []) ∙ append-nil (unmarked rs)

module _ {S W : Type 0} where
  -- the slots of a group hold what its value holds
  abbrev pub all_hold : List (Slot S W) → S → W → Bool
  all_hold [] s w = true
  all_hold (h ∷ hs) s w = h.holds (h.content s) w && all_hold hs s w

  abbrev pub all_are_filled : List (Slot S W) → S → Bool
  all_are_filled [] s = true
  all_are_filled (h ∷ hs) s = h.is_filled (h.content s) && all_are_filled hs s

  pub held_before : (hs : List (Slot S W)) (s : S) (w : W) → all_hold hs s w ≡ true → HoldBefore hs (length hs) s w
  held_before [] s w held = tt
  held_before (h ∷ hs) s w held = let both = and_parts (h.holds (h.content s) w) (all_hold hs s w) held in (both.0, held_before hs s w both.1)

  held_by_all : (hs : List (Slot S W)) (s : S) (w : W) → HoldBefore hs (length hs) s w → all_hold hs s w ≡ true
  held_by_all [] s w held = refl
  held_by_all (h ∷ hs) s w held = ap (λ b. b && all_hold hs s w) held.0 ∙ held_by_all hs s w held.1

  filled_by_all : (hs : List (Slot S W)) (s : S) (w : W) → all_hold hs s w ≡ true → all_are_filled hs s ≡ true
  filled_by_all [] s w held = refl
  filled_by_all (h ∷ hs) s w held =
      let both = and_parts (h.holds (h.content s) w) (all_hold hs s w) held in
      ap (λ b. b && all_are_filled hs s) (h.if_held (h.content s) w both.0) ∙ filled_by_all hs s w both.1

  -- The slot of a group has slots of its own, once one of its components has come.
  abbrev pub holds_group : List (Slot S W) → Option S → Option W → Bool
  holds_group hs None None = true
  holds_group hs None (Some w) = false
  holds_group hs (Some s) None = false
  holds_group hs (Some s) (Some w) = all_hold hs s w

  abbrev pub group_is_filled : List (Slot S W) → Option S → Bool
  group_is_filled hs None = true
  group_is_filled hs (Some s) = all_are_filled hs s

  pub group_if_held : (hs : List (Slot S W)) (slot : Option S) (o : Option W) → holds_group hs slot o ≡ true → group_is_filled hs slot ≡ true
  group_if_held hs None o held = refl
  group_if_held hs (Some s) None held = cc
  group_if_held hs (Some s) (Some w) held = filled_by_all hs s w held

  abbrev pub GroupInStep : List (Slot S W) → (ℕ → ℕ) → Option S → Option W → Type 0
  GroupInStep hs times None o = (j : ℕ) → j < length (parts_of_slots hs) → times j ≡ 0
  GroupInStep hs times (Some s) None = ⊥
  GroupInStep hs times (Some s) (Some w) = AreInStep hs times s w

  -- Nothing was read of a group, or the component at an index.
  abbrev pub IsPartRead : {D A : Type 0} → Reader D → List (Slot S W) → Tag → D → D → S → S → Result A DecodeError → Type 0
  IsPartRead R hs t old new starts ends result =
      ((new ≡ old) × AllAreKept hs starts ends) ⊎
      ((index : ℕ) × (index < length hs) × ReadsOnceAt R hs index t old new starts ends result × OthersAreKept hs index starts ends)

  -- A value has what the slot of a group has.
  abbrev pub IsOfGroup : List (Slot S W) → Option S → Option W → Type 0
  IsOfGroup hs None None = ⊤
  IsOfGroup hs None (Some w) = ⊥
  IsOfGroup hs (Some s) None = ⊥
  IsOfGroup hs (Some s) (Some w) = AreOf hs s w

  -- what has come for a group, and what a call adds to it
  abbrev pub HasComeGroup : List (Slot S W) → Option S → List Record → Type 0
  HasComeGroup hs None rs = unmarked rs ≡ []
  HasComeGroup hs (Some s) rs = HaveCome hs s rs

  -- these records are those of a component, or there are none
  abbrev pub IsPartAdded : List (Slot S W) → S → S → List Record → Type 0
  IsPartAdded hs starts ends added =
      ((added ≡ []) × AllAreKept hs starts ends) ⊎ ((index : ℕ) × ComesAt hs index starts ends added × OthersAreKept hs index starts ends)

  pub record ComesInGroup (hs : List (Slot S W)) (before after : Option S) (added : List Record) : Type 0 where
    pub starts : S
    pub ends : S
    pub first : (before ≡ Some starts) ⊎ ((before ≡ None) × AreEmpty hs starts)
    pub filled : after ≡ Some ends
    pub is_added : IsPartAdded hs starts ends added

  -- A call that reads the component of a group that can begin with the tag, into the slots of the
  -- group, which are empty if none came before.
  pub record FillsPart {D A : Type 0} (R : Reader D) (hs : List (Slot S W)) (t : Tag) (old new : D) (before after : Option S) (result : Result A DecodeError) : Type 0 where
    pub starts : S
    pub ends : S
    pub first : (before ≡ Some starts) ⊎ ((before ≡ None) × AreEmpty hs starts)
    pub reads : (index : ℕ) → AllApart (components_of hs) → CanBeginWith (components_of hs) index t → ReadsOnceAt R hs index t old new starts ends result
    pub kept : (index : ℕ) → AllApart (components_of hs) → CanBeginWith (components_of hs) index t → OthersAreKept hs index starts ends
    pub filled : OnOk result (after ≡ Some ends)
    pub exactly : OnOk result (IsPartRead R hs t old new starts ends result)

-- what was read, with where it is kept
with_kept : {D A : Type 0} (R : Reader D) (old new : D) (rs rest : List Record) (outer : Outside) (P Is As : Type 0) (result : Result A DecodeError) →
    OnOk result P → (P → Is → As) → ReadsBack R old new rs rest outer (λ _. Is) result → ReadsBack R old new rs rest outer (λ _. As) result
with_kept R old new rs rest outer P Is As (Ok x) kept turn moves = in_other_words R old new _ _ _ (Ok x) (λ _ is. turn kept is) moves
with_kept R old new rs rest outer P Is As (Err e) kept turn moves = moves

-- The records that come for the components of a group add up, and are read as the group.
module _ {Sl W : Type 0} (hs : List (Slot Sl W)) (can : can_be_in_set hs ≡ true) where
  part_was_read : {D A : Type 0} (R : Reader D) (t : Tag) (old new : D) (starts ends : Sl) (x : A) → IsPartRead R hs t old new starts ends (Ok x) → WasRead R old new (IsPartAdded hs starts ends)
  part_was_read R t old new starts ends x (inl (same, kept)) =
      these_were_read R old new [] (IsPartAdded hs starts ends) (inl (refl, kept)) (λ rest outer at. subst (λ d. R.remains d (rest, outer)) same at)
  part_was_read R t old new starts ends x (inr (index, low, reads, kept)) =
      was_read_as R old new (ComesAt hs index starts ends) (IsPartAdded hs starts ends) (λ rs comes. inr (index, comes, kept)) (comes_at R t old new x hs index starts ends low can reads)

  pub group_comes : {D A : Type 0} (R : Reader D) (t : Tag) (old new : D) (before after : Option Sl) (x : A) → FillsPart R hs t old new before after (Ok x) → WasRead R old new (ComesInGroup hs before after)
  group_comes R t old new before after x fills =
      was_read_as R old new (IsPartAdded hs fills.starts fills.ends) (ComesInGroup hs before after)
      (λ rs is. record { starts = fills.starts; ends = fills.ends; first = fills.first; filled = fills.filled; is_added = is })
      (part_was_read R t old new fills.starts fills.ends x fills.exactly)

  began : (before : Option Sl) (starts : Sl) (rs : List Record) → (before ≡ Some starts) ⊎ ((before ≡ None) × AreEmpty hs starts) → HasComeGroup hs before rs → HaveCome hs starts rs
  began before starts rs (inl is) has = subst (λ slot. HasComeGroup hs slot rs) is has
  began before starts rs (inr (is, empty)) has = nothing_but_marks rs (subst (λ slot. HasComeGroup hs slot rs) is has) hs starts (none_have_come hs can starts empty)
    where
      nothing_but_marks : (rs : List Record) → unmarked rs ≡ [] → (gs : List (Slot Sl W)) (s : Sl) → HaveCome gs s [] → HaveCome gs s rs
      nothing_but_marks rs empty_now [] s have = empty_now
      nothing_but_marks rs empty_now (h ∷ gs) s (own, others, one, are, moved) =
          (own, others, one, are, subst (λ l. IsPermutation l (unmarked own ++ unmarked others)) (sym empty_now) moved)

  grown : (starts ends : Sl) (rs added : List Record) → HaveCome hs starts rs → IsPartAdded hs starts ends added → HaveCome hs ends (rs ++ added)
  grown starts ends rs added have (inl (empty_now, kept)) =
      subst (λ l. HaveCome hs ends l) (sym (append-nil rs) ∙ ap (λ l. rs ++ l) (sym empty_now)) (kept_have_come hs starts ends rs kept have)
  grown starts ends rs added have (inr (index, comes, kept)) = added_at hs can index starts ends rs added kept comes have

  pub group_came : (before after : Option Sl) (rs added : List Record) → HasComeGroup hs before rs → ComesInGroup hs before after added → HasComeGroup hs after (rs ++ added)
  group_came before after rs added has comes =
      subst (λ slot. HasComeGroup hs slot (rs ++ added)) (sym comes.filled) (grown comes.starts comes.ends rs added (began before comes.starts rs comes.first has) comes.is_added)

  pub group_in_turn : (slot : Option Sl) (o : Option W) (rs : List Record) → IsOfGroup hs slot o → HasComeGroup hs slot rs →
      CanBePutInTurn (IsReadAsGroup (rows (sequence_of_slots hs)) (components_of hs) o) rs
  group_in_turn None None rs is empty_now = record {
    in_turn = presence_mark (group_absent (rows (sequence_of_slots hs))) ∷ [];
    are = refl;
    moved = subst (λ l. IsPermutation l []) (sym empty_now) (IsPermutation-refl []);
  }
  group_in_turn None (Some w) rs is has = absurd is
  group_in_turn (Some s) None rs is has = absurd is
  group_in_turn (Some s) (Some w) rs is has =
      let (turn, reads, moved) = read_in_any_order (components_of hs) hs (slots_of_own hs) can s w rs is has in record {
        in_turn = presence_mark (group_start (rows (sequence_of_slots hs))) ∷ turn ++ presence_mark group_end ∷ [];
        are = inr (turn, reads, refl);
        moved = subst (λ l. IsPermutation (unmarked rs) l) (sym (unmarked-append turn (presence_mark group_end ∷ []) ∙ append-nil (unmarked turn))) moved;
      }

module _ {Sl V W : Type 0} (name : List ℕ) (get : V → Option W) (hs : List (Slot Sl W)) where
  abbrev pub group_component : ComponentType V
  group_component = record (group_of name get (rows (sequence_of_slots hs)) (components_of hs)) {
    IsWellTagged = CanBeInSequence (components_of hs) × EachCanBeOn in_root (components_of hs);
    fits = λ can v. group_fits (rows (sequence_of_slots hs)) (components_of hs) can.0.0 (get v);
  }

  abbrev pub group_parts : List (ComponentType V)
  group_parts = all_in_group get (parts_of_slots hs)

  -- None of its components is a group that is not read in a SET, or can begin with any tag.
  abbrev pub is_read_in_set : Bool
  is_read_in_set = can_be_in_set hs && not (is_any_open (trees_of (components_of hs)))

  pub is_closed : (b : Bool) → not b ≡ true → b ≡ false
  is_closed true h = cc
  is_closed false h = refl

  module _ (all : can_be_in_set hs ≡ true) where
    within_group : (j : ℕ) (t : Tag) → CanBeginWith group_parts j t → Has (tree_tags (choice (trees_of (components_of hs)))) t
    within_group j t begins =
        let place = place_of hs all j t (begins_in_group get (parts_of_slots hs) j t begins) in
        begins_choice (components_of hs) place.slot t place.begins

    one_each_in_group : EachIsWellTagged (components_of hs) → (v : V) → EachIsOneRecord group_parts v
    one_each_in_group can v = by (get v) refl
      where
        by : (o : Option W) → get v ≡ o → EachIsOneRecord group_parts v
        by None is = none_one_each get (parts_of_slots hs) v is
        by (Some w) is = some_one_each get (parts_of_slots hs) v w is (each_is_one hs all can w)

    written_in_group : (v : V) → unmarked (group_component.records v) ≡ unmarked (all_records group_parts v)
    written_in_group v = by (get v) refl
      where
        by : (o : Option W) → get v ≡ o → unmarked (group_component.records v) ≡ unmarked (all_records group_parts v)
        by None is =
            ap (λ o. unmarked (group_records (rows (sequence_of_slots hs)) (option_map (all_records (components_of hs)) o))) is
            ∙ ap unmarked (sym (none_recorded get (parts_of_slots hs) v is))
        by (Some w) is =
            ap (λ o. unmarked (group_records (rows (sequence_of_slots hs)) (option_map (all_records (components_of hs)) o))) is
            ∙ unmarked_group (rows (sequence_of_slots hs)) (all_records (components_of hs) w) (presence_marks_alone (all_records (components_of hs) w)) refl
            ∙ written_in_parts hs all w
            ∙ ap unmarked (sym (some_recorded get (parts_of_slots hs) v w is))

    same_in_step : (m n : ℕ → ℕ) (slot : Option Sl) (o : Option W) → ((j : ℕ) → j < length group_parts → m j ≡ n j) → GroupInStep hs m slot o → GroupInStep hs n slot o
    same_in_step m n None o same step = λ j low. sym (same j (omega (arith, low, length_in_group get (parts_of_slots hs)))) ∙ step j low
    same_in_step m n (Some s) None same step = step
    same_in_step m n (Some s) (Some w) same step = times_in_step hs all m n s w (λ j low. same j (omega (arith, low, length_in_group get (parts_of_slots hs)))) step

    -- the slots of the group before one of its components is read
    starts_in_step : (times : ℕ → ℕ) (before : Option Sl) (starts : Sl) (w : W) → (before ≡ Some starts) ⊎ ((before ≡ None) × AreEmpty hs starts) →
        GroupInStep hs times before (Some w) → AreInStep hs times starts w
    starts_in_step times before starts w (inl is) step = subst (λ slot. GroupInStep hs times slot (Some w)) is step
    starts_in_step times before starts w (inr (is, empty)) step =
        let nothing = subst (λ slot. GroupInStep hs times slot (Some w)) is step in
        times_in_step hs all (λ _. 0) times starts w (λ j low. sym (nothing j low)) (none_came hs all starts w empty)

    reads_in_group : is_any_open (trees_of (components_of hs)) ≡ false → {D A : Type 0} (R : Reader D) (t : Tag) (j : ℕ) (times : ℕ → ℕ) (old new : D) (before after : Option Sl)
        (result : Result A DecodeError) → FillsPart R hs t old new before after result → CanBeginWith group_parts j t → IsTrue (distinct (leaves group_component.tree)) →
        (v : V) (rest : List Record) (outer : Outside) → group_component.IsWellTagged → group_component.IsOfType v → group_component.IsValid R.accepts v →
        GroupInStep hs times before (get v) → times j ≡ 0 → written_of group_parts v j ≢ [] →
        ReadsBack R old new (written_of group_parts v j) rest outer (λ _. GroupInStep hs (one_more times j) after (get v)) result
    reads_in_group closed R t j times old new before after result fills begins distinct v rest outer can of_type valid step nothing some = by (get v) refl
      where
        by : (o : Option W) → get v ≡ o → ReadsBack R old new (written_of group_parts v j) rest outer (λ _. GroupInStep hs (one_more times j) after (get v)) result
        by None is = absurd (some (none_written get (parts_of_slots hs) v j is))
        by (Some w) is =
            let place = place_of hs all j t (begins_in_group get (parts_of_slots hs) j t begins) in
            let apart = apart_if_closed (components_of hs) closed distinct in
            let written : written_of (parts_of_slots hs) w j ≡ written_of group_parts v j = sym (some_written get (parts_of_slots hs) v w j is) in
            let valid_there = subst (λ o. IfSome o (λ x. EachIsValid (components_of hs) R.accepts x × (presence_marks_alone (all_records (components_of hs) x) ≡ false))) is valid in
            let inside = part_is_read R hs all t place.slot place.part j times old new fills.starts fills.ends result place.is
            (fills.reads place.slot apart place.begins) (fills.kept place.slot apart place.begins) (each_is_distinct (components_of hs) distinct) w rest outer can.0.0
            (subst (λ o. IfSome o (EachIsOfType (components_of hs))) is of_type) valid_there.0
            (starts_in_step times before fills.starts w fills.first (subst (λ o. GroupInStep hs times before o) is step)) nothing (λ empty. some (sym written ∙ empty)) in
            subst (λ rs. ReadsBack R old new rs rest outer (λ _. GroupInStep hs (one_more times j) after (get v)) result) written
            (with_kept R old new (written_of (parts_of_slots hs) w j) rest outer (after ≡ Some fills.ends) (AreInStep hs (one_more times j) fills.ends w) (GroupInStep hs (one_more times j) after (get v)) result fills.filled
            (λ kept in_step. subst (λ o. GroupInStep hs (one_more times j) after o) (sym is) (subst (λ slot. GroupInStep hs (one_more times j) slot (Some w)) (sym kept) in_step)) inside)

    -- a group of which nothing has come is away
    nothing_there : (accepts : List ℕ → Bool) (times : ℕ → ℕ) (w : W) → EachIsValid (components_of hs) accepts w × (presence_marks_alone (all_records (components_of hs) w) ≡ false) →
        ((j : ℕ) → j < length (parts_of_slots hs) → times j ≡ 0) → ((j : ℕ) → written_of (parts_of_slots hs) w j ≢ [] → times j ≢ 0) → ⊥
    nothing_there accepts times w valid nothing complete =
        let alone = marks_if_unmarked (all_records (components_of hs) w) (written_in_parts hs all w ∙ none_of_any (parts_of_slots hs) w (λ k. not_written k (written_of (parts_of_slots hs) w k) refl)) in
        let wrong : true ≡ false = sym alone ∙ valid.1 in
        cc
      where
        not_written : (k : ℕ) (rs : List Record) → written_of (parts_of_slots hs) w k ≡ rs → written_of (parts_of_slots hs) w k ≡ []
        not_written k [] is = is
        not_written k (r ∷ rs) is =
            let some : written_of (parts_of_slots hs) w k ≢ [] = λ empty. (let wrong : r ∷ rs ≡ [] = sym is ∙ empty in cc) in
            absurd (complete k some (nothing k (written_below (parts_of_slots hs) w k some)))

    ends_in_group : (accepts : List ℕ → Bool) (times : ℕ → ℕ) (slot : Option Sl) (o : Option W) → EachIsWellTagged (components_of hs) →
        IfSome o (λ w. EachIsValid (components_of hs) accepts w × (presence_marks_alone (all_records (components_of hs) w) ≡ false)) →
        GroupInStep hs times slot o → ((w : W) → o ≡ Some w → (j : ℕ) → written_of (parts_of_slots hs) w j ≢ [] → times j ≢ 0) → holds_group hs slot o ≡ true
    ends_in_group accepts times None None can valid step complete = refl
    ends_in_group accepts times None (Some w) can valid step complete = absurd (nothing_there accepts times w valid step (complete w refl))
    ends_in_group accepts times (Some s) None can valid step complete = absurd step
    ends_in_group accepts times (Some s) (Some w) can valid step complete = held_by_all hs s w (hold_at_end hs all accepts times s w can valid.0 step (complete w refl))

    begins_in_step : (o : Option W) → GroupInStep hs (λ _. 0) None o
    begins_in_step o = λ j low. refl

    pub group_in_set_is_read : is_any_open (trees_of (components_of hs)) ≡ false →
        ReadInSet group_component group_parts (λ slot v. holds_group hs slot (get v)) (λ D A R t old new before after result. FillsPart R hs t old new before after result)
        (λ times slot v. GroupInStep hs times slot (get v))
    group_in_set_is_read closed = record {
      trees = trees_in_parts hs all ∙ trees_in_group get (parts_of_slots hs);
      own = own_in_group get (parts_of_slots hs);
      within = within_group;
      well_tagged = λ can. well_tagged_in_group get (parts_of_slots hs) (each_well_tagged hs all can.0.0);
      one_each = λ can v. one_each_in_group can.0.0 v;
      apart = λ distinct. all_apart_in_group get (parts_of_slots hs)
          (parts_apart hs all (each_is_distinct (components_of hs) distinct) (apart_if_closed (components_of hs) closed distinct));
      written = written_in_group;
      begins = λ v. begins_in_step (get v);
      same = λ m n slot v same step. same_in_step m n slot (get v) same step;
      reads = λ R t j times old new before after result fills begins distinct v rest outer can of_type valid step nothing some.
          reads_in_group closed R t j times old new before after result fills begins distinct v rest outer can of_type valid step nothing some;
      holds_at_end = λ accepts times slot v can valid step complete.
          ends_in_group accepts times slot (get v) can.0.0 valid step (λ w is j some. complete j (λ nothing. some (sym (some_written get (parts_of_slots hs) v w j is) ∙ nothing)));
    }

  -- The slot of a group of a SET, by the slots of the group, which has a type of its own, and by the
  -- equality of that type: it is empty until one of its components comes.
  abbrev pub group_in_set : {S : Type 0} → (S → Option Sl) → (W → W → Bool) → Slot S V
  group_in_set slot eq = record {
    component = group_component;
    is_in_set = is_read_in_set;
    Content = Sl;
    content = slot;
    is_filled = group_is_filled hs;
    holds = λ s v. holds_group hs s (get v);
    if_held = λ s v held. group_if_held hs s (get v) held;
    Reads = λ R old new s result. ⊥;
    reads = λ R old new s result wrong. absurd wrong;
    fills = λ R old new s x wrong. absurd wrong;
    IsReadAs = λ s rs. ⊥;
    reads_exactly = λ R old new s x wrong. absurd wrong;
    IsOf = λ s v. IsOfGroup hs s (get v);
    read_as_component = λ s v rs is wrong. absurd wrong;
    HasCome = HasComeGroup hs;
    Comes = ComesInGroup hs;
    comes_in_set = λ is.
        let can = (and_parts (can_be_in_set hs) (not (is_any_open (trees_of (components_of hs)))) is).0 in record {
          nothing = refl;
          comes = λ D A R t old new before after x fills. group_comes hs can R t old new before after x fills;
          came = group_came hs can;
          in_turn = λ s v rs of has. group_in_turn hs can s (get v) rs of has;
        };
    parts = group_parts;
    ReadsOnce = λ R t old new before after result. FillsPart R hs t old new before after result;
    InStep = λ times s v. GroupInStep hs times s (get v);
    in_set = λ is.
        let both = and_parts (can_be_in_set hs) (not (is_any_open (trees_of (components_of hs)))) is in
        group_in_set_is_read both.0 (is_closed (is_any_open (trees_of (components_of hs))) both.1);
    equal = λ v w. option_eq eq (get v) (get w);
    CanBeAlike = EachIsWellTagged (components_of hs) → HaveSameRecords eq (all_records (components_of hs));
    alike = λ each can v w same. groups_alike (rows (sequence_of_slots hs)) (all_records (components_of hs)) (each can.0.0) (get v) (get w) same;
    CanBeDistinct = EachIsWellTagged (components_of hs) → (w : W) → AreDistinct (all_records (components_of hs) w);
    distinct = λ own can v. groups_distinct (rows (sequence_of_slots hs)) (all_records (components_of hs)) (own can.0.0) (get v);
  }
