-- How the components of a SET are read, one after another.
use Rattle.std.proofs.Common.{◌≡◌, ◌≢◌, ℕ, zero, suc, max, ◌+◌, ◌≤◌, true, false, cond, List, [], ◌∷◌, ◌++◌, length, Option, Some, None, Ok, Err, refl, ap, sym, ◌∙◌, subst, arith, inl, inr}
use Rattle.std.specs.Prelude.{◌==◌, IsPermutation, if◌then◌else◌}
use Rattle.std.specs.List.{All}
use Rattle.std.proofs.lemmas.List.Elements.{All-head, All-nil, All-push, All-tail}
use Rattle.std.proofs.lemmas.List.Sorted.{All-permutation, IsPermutation-sym}
use Rattle.std.proofs.lemmas.List.Sums.{sum_by-append, sum_by-cons}
use Rattle.asn1_components.specs.ComponentLists.{EachIsWellTagged, all_records}
use Rattle.asn1_components.specs.ComponentTypes.{ComponentType, Fits}
use Rattle.asn1_components.specs.Following.{AllApart, ApartFromEach}
use Rattle.asn1_laws.specs.Reading.{IsNextTag, MayFail, Advances, Reader, TellsComponent, marks_passed, records_in, Outside}
use Rattle.asn1_laws.specs.declared.decode_error.DecodeError.{DecodeError}
use Rattle.asn1_laws.proofs.ReadingSteps.{flat_failure}
use Rattle.asn1_model.specs.Records.{Record, scalar, scope, open_type, presence_mark, highest, is_presence_mark, presence_marks_alone, unmarked}
use Rattle.asn1_model.specs.Tags.{Has, LiesIn, among, first_tags, record_tags, tree_tags}
use Rattle.asn1_tags.specs.Trees.{Tree}
use Rattle.asn1_tags.specs.declared.tags.Tag.{Tag}
use Rattle.asn1_laws.specs.SetParts.{ArePartsOf, CanBeginWith, EachIsOneRecord, parts_at, written_of}
use Rattle.asn1_laws.proofs.Rearrangements.{made_of}
use Rattle.asn1_laws.proofs.SetRecords.{BeginsWithRecord, IsAll, Item, all_are, all_in_front, as_many_as_written, at_most_one, front, is_front, items_at, items_at-permutation, items_from, nothing, records, their_records}

-- the tags of a component's record are those of the component
first-unmarked : (rs : List Record) → first_tags rs ≡ first_tags (unmarked rs)
first-unmarked [] = refl
first-unmarked (scalar t c n x ∷ rs) = refl
first-unmarked (scope h inner ∷ rs) = refl
first-unmarked (open_type n bytes ∷ rs) = refl
first-unmarked (presence_mark m ∷ rs) = first-unmarked rs

pub unmarked-marks : (rs : List Record) → presence_marks_alone rs ≡ true → unmarked rs ≡ []
unmarked-marks [] alone = refl
unmarked-marks (scalar t c n x ∷ rs) alone = cc
unmarked-marks (scope h inner ∷ rs) alone = cc
unmarked-marks (open_type n bytes ∷ rs) alone = cc
unmarked-marks (presence_mark m ∷ rs) alone = unmarked-marks rs alone

no_records : (rs : List Record) → presence_marks_alone rs ≡ true → records_in rs ≡ 0
no_records [] alone = refl
no_records (scalar t c n x ∷ rs) alone = cc
no_records (scope h inner ∷ rs) alone = cc
no_records (open_type n bytes ∷ rs) alone = cc
no_records (presence_mark m ∷ rs) alone = no_records rs alone

first_of_one : (r : Record) (rs : List Record) → is_presence_mark r ≡ false → first_tags (r ∷ rs) ≡ record_tags r
first_of_one r rs no_mark = ap (λ b. cond b (first_tags rs) (record_tags r)) no_mark

in_tree : {V : Type 0} (c : ComponentType V) (v : V) (r : Record) → Fits c.presence c.tree (c.records v) → is_presence_mark r ≡ false → unmarked (c.records v) ≡ r ∷ [] → LiesIn (record_tags r) (tree_tags c.tree)
in_tree c v r (inl begins) no_mark is =
    subst (λ a. LiesIn a (tree_tags c.tree)) (first-unmarked (c.records v) ∙ ap first_tags is ∙ first_of_one r [] no_mark) begins.within
in_tree c v r (inr absent) no_mark is = let none : unmarked (c.records v) ≡ [] = unmarked-marks (c.records v) absent.1 in cc

can_begin : {V : Type 0} (cs : List (ComponentType V)) (v : V) (k : ℕ) (r : Record) (t : Tag) → EachIsWellTagged cs → is_presence_mark r ≡ false → written_of cs v k ≡ r ∷ [] → TellsComponent cs (record_tags r) t → CanBeginWith cs k t
can_begin [] v k r t can no_mark is tells = cc
can_begin (c ∷ cs) v zero r t can no_mark is tells = tells.0.0 (in_tree c v r (c.fits can.0 v) no_mark is)
can_begin (c ∷ cs) v (suc k) r t can no_mark is tells = can_begin cs v k r t can.1 no_mark is tells.1

-- no two components can begin with the same tag
other_tree : {V : Type 0} (tree : Tree) (cs : List (ComponentType V)) (k : ℕ) (t : Tag) → ApartFromEach tree cs → Has (tree_tags tree) t → CanBeginWith cs k t → ⊥
other_tree tree [] k t apart has begins = begins
other_tree tree (c ∷ cs) zero t apart has begins = apart.0 t has begins
other_tree tree (c ∷ cs) (suc k) t apart has begins = other_tree tree cs k t apart.1 has begins

pub same_component : {V : Type 0} (cs : List (ComponentType V)) (j k : ℕ) (t : Tag) → AllApart cs → CanBeginWith cs j t → CanBeginWith cs k t → j ≡ k
same_component [] j k t apart one other = absurd one
same_component (c ∷ cs) zero zero t apart one other = refl
same_component (c ∷ cs) zero (suc k) t apart one other = absurd (other_tree c.tree cs k t apart.0 one other)
same_component (c ∷ cs) (suc j) zero t apart one other = absurd (other_tree c.tree cs j t apart.0 other one)
same_component (c ∷ cs) (suc j) (suc k) t apart one other = ap suc (same_component cs j k t apart.1 one other)

parts_at-push : {P : Type 0} (index_of : P → ℕ) (k : ℕ) (parts : List P) (p : P) → parts_at index_of k (parts ++ p ∷ []) ≡ parts_at index_of k parts + cond (index_of p == k) 1 0
parts_at-push index_of k parts p =
    omega (arith, sum_by-append (λ q. cond (index_of q == k) 1 0) parts (p ∷ []), sum_by-cons (λ q. cond (index_of q == k) 1 0) p [])

module _ {D V P : Type 0} (R : Reader D) (cs : List (ComponentType V)) (v : V) (index_of : P → ℕ) (IsPart : P → Type 0) where
  -- These parts were read, and others are left. The height is that of the records of all.
  pub record PartsRead (d : D) (parts : List P) (height : ℕ) (outer : Outside) (count bound : ℕ) : Type 0 where
    pub todo : List Item
    pub one_each : EachIsOneRecord cs v
    pub are : All (IsAll cs v) todo
    pub each : All IsPart parts
    pub counted : (k : ℕ) → parts_at index_of k parts + items_at k todo ≡ length (written_of cs v k)
    pub few : records_in (records todo) + count ≤ bound
    pub low : height ≤ max (R.depth_left d) (highest (records todo))
    pub no_deeper : highest (records todo) ≤ height
    pub at : R.remains d (records todo, outer)

  -- The same, where the component of this index comes.
  pub record ComponentComes (d : D) (parts : List P) (height : ℕ) (outer : Outside) (count bound index : ℕ) : Type 0 where
    pub todo : List Item
    pub one_each : EachIsOneRecord cs v
    pub is_there : written_of cs v index ≢ []
    pub are : All (IsAll cs v) todo
    pub each : All IsPart parts
    pub counted : (k : ℕ) → parts_at index_of k parts + (cond (index == k) 1 0 + items_at k todo) ≡ length (written_of cs v k)
    pub few : suc (records_in (records todo)) + count ≤ bound
    pub low : height ≤ max (R.depth_left d) (max (highest (written_of cs v index)) (highest (records todo)))
    pub no_deeper : max (highest (written_of cs v index)) (highest (records todo)) ≤ height
    pub at : R.remains d (written_of cs v index ++ records todo, outer)

  -- The same, where the component comes that can begin with the tag.
  pub record AnotherComes (d : D) (parts : List P) (height : ℕ) (outer : Outside) (count bound : ℕ) (t : Tag) : Type 0 where
    pub index : ℕ
    pub begins : CanBeginWith cs index t
    pub comes : ComponentComes d parts height outer count bound index

  -- The same, where none is left.
  pub record Through (d : D) (parts : List P) (height : ℕ) (outer : Outside) : Type 0 where
    pub parts_are : ArePartsOf cs v index_of IsPart parts
    pub low : height ≤ R.depth_left d
    pub at : R.remains d ([], outer)

  pub start : (d : D) (items : List Record) (outer : Outside) (bound : ℕ) → EachIsOneRecord cs v → IsPermutation items (all_records cs v) → records_in items ≤ bound → R.remains d (items, outer) →
      PartsRead d [] (highest items) outer 0 bound
  start d items outer bound one moved few at =
      let made = made_of (λ (i : Item). i.1) items (items_from 0 cs v) (subst (IsPermutation items) (sym (their_records 0 cs v)) moved) in
      let high : highest items ≡ highest (records made.order) = ap highest made.is in
      record {
        todo = made.order;
        one_each = one;
        are = All-permutation (IsAll cs v) (items_from 0 cs v) made.order (IsPermutation-sym made.order (items_from 0 cs v) made.rearranged) (all_are cs cs 0 v (λ i. let same : 0 + i ≡ i = omega arith in ap (written_of cs v) same) one);
        each = All-nil IsPart;
        counted = λ k. let all = items_at-permutation k made.order (items_from 0 cs v) made.rearranged ∙ as_many_as_written cs 0 k k v (omega arith) in omega (arith, all);
        few = omega (arith, few, ap records_in made.is);
        low = omega (arith, high);
        no_deeper = omega (arith, high);
        at = subst (λ l. R.remains d (l, outer)) made.is at;
      }

  -- where the next tag could not be told
  pub not_told : (e : D) {d : D} {parts : List P} {height : ℕ} {outer : Outside} {count bound : ℕ} {error : DecodeError} (b h : ℕ) (m : PartsRead d parts height outer count bound) →
      Advances R d e 0 (records m.todo, outer) (marks_passed (records m.todo), outer) (IsNextTag cs (records m.todo)) (Err error) → MayFail b h error
  not_told e {error = error} b h m moves = flat_failure b h error (moves m.at)

  -- past the marks in front
  past_marks : {d : D} {parts : List P} {height : ℕ} {outer : Outside} {count bound : ℕ} (e : D) (m : PartsRead d parts height outer count bound) →
      R.remains e (marks_passed (records m.todo), outer) → R.depth_left e ≡ R.depth_left d → PartsRead e parts height outer count bound
  past_marks {outer = outer} e m at kept =
      let f = is_front m.todo in
      record {
        todo = front m.todo;
        one_each = m.one_each;
        are = all_in_front (IsAll cs v) m.todo m.are;
        each = m.each;
        counted = λ k. omega (arith, m.counted k, f.counts k);
        few = omega (arith, m.few, f.as_many);
        low = omega (arith, m.low, f.as_high, kept);
        no_deeper = omega (arith, m.no_deeper, f.as_high);
        at = subst (λ l. R.remains e (l, outer)) f.passed at;
      }

  -- the next record, after the marks
  first_tells : (j : Item) (js : List Item) (t : Tag) → is_presence_mark j.1 ≡ false → TellsComponent cs (first_tags (records (j ∷ js))) t → TellsComponent cs (record_tags j.1) t
  first_tells j js t no_mark tells = subst (λ a. TellsComponent cs a t) (first_of_one j.1 (records js) no_mark) tells

  none_has : (t : Tag) → Has (among []) t → ⊥
  none_has t (k, below, same) = omega (arith, below)

  -- where a component comes
  comes_first : {d : D} {parts : List P} {height : ℕ} {outer : Outside} {count bound : ℕ} (t : Tag) → EachIsWellTagged cs → (m : PartsRead d parts height outer count bound) →
      BeginsWithRecord m.todo → (u : Tag) → Has (first_tags (records m.todo)) u → TellsComponent cs (first_tags (records m.todo)) t → AnotherComes d parts height outer count bound t
  comes_first {d} {parts} {height} {outer} {count} {bound} t can m begins u has tells =
      elim m.todo as (λ todo. BeginsWithRecord todo → Has (first_tags (records todo)) u → TellsComponent cs (first_tags (records todo)) t → All (IsAll cs v) todo → ((k : ℕ) → parts_at index_of k parts + items_at k todo ≡ length (written_of cs v k)) →
      records_in (records todo) + count ≤ bound → height ≤ max (R.depth_left d) (highest (records todo)) → highest (records todo) ≤ height → R.remains d (records todo, outer) → AnotherComes d parts height outer count bound t) [
        | [] ↦ λ begins has tells are counted few low no_deeper at. absurd (none_has u has)
        | j ∷ js ↦ λ no_mark has tells are counted few low no_deeper at.
            let is : written_of cs v j.0 ≡ j.1 ∷ [] = All-head (IsAll cs v) j js are no_mark in
            record {
              index = j.0;
              begins = can_begin cs v j.0 j.1 t can no_mark is (first_tells j js t no_mark tells);
              comes = record {
                todo = js;
                one_each = m.one_each;
                is_there = λ none. cc;
                are = All-tail (IsAll cs v) j js are;
                each = m.each;
                counted = λ k. let own = ap {B = ℕ} (λ b. cond (if b then false else (j.0 == k)) 1 0) no_mark in omega (arith, counted k, own);
                few = let one : records_in (records (j ∷ js)) ≡ suc (records_in (records js)) = ap (λ b. if b then records_in (records js) else suc (records_in (records js))) no_mark in omega (arith, few, one);
                low = omega (arith, low, ap highest is);
                no_deeper = omega (arith, no_deeper, ap highest is);
                at = subst (λ l. R.remains d (l ++ records js, outer)) (sym is) at;
              };
            }
      ]
      begins has tells m.are m.counted m.few m.low m.no_deeper m.at

  pub comes : {d : D} {parts : List P} {height : ℕ} {outer : Outside} {count bound : ℕ} (e : D) (t : Tag) → EachIsWellTagged cs → (m : PartsRead d parts height outer count bound) →
      Advances R d e 0 (records m.todo, outer) (marks_passed (records m.todo), outer) (IsNextTag cs (records m.todo)) (Ok (Some t)) → R.depth_left e ≡ R.depth_left d → AnotherComes e parts height outer count bound t
  unfolding past_marks
  comes e t can m moves kept =
      let moved = moves m.at in
      let f = is_front m.todo in
      let told = moved.answer.some t refl in
      comes_first t can (past_marks e m moved.at kept) f.begins told.0 (subst (λ a. Has a told.0) f.tags told.1.0) (subst (λ a. TellsComponent cs a t) f.tags told.1.1)

  -- which no other can
  pub comes_at : {d : D} {parts : List P} {height : ℕ} {outer : Outside} {count bound : ℕ} {t : Tag} (index : ℕ) → AllApart cs → CanBeginWith cs index t →
      AnotherComes d parts height outer count bound t → ComponentComes d parts height outer count bound index
  comes_at {d} {parts} {height} {outer} {count} {bound} {t} index apart begins a =
      subst (λ k. ComponentComes d parts height outer count bound k) (same_component cs a.index index t apart a.begins begins) a.comes

  -- where none is left
  none_left : {d : D} {parts : List P} {height : ℕ} {outer : Outside} {count bound : ℕ} (m : PartsRead d parts height outer count bound) → m.todo ≡ [] → Through d parts height outer
  none_left {d = d} {outer = outer} m none = record {
    parts_are = record {
      each = m.each;
      none_twice = λ k. omega (arith, m.counted k, at_most_one cs v k m.one_each);
      complete = λ k there away. there (nothing (written_of cs v k) (omega (arith, m.counted k, ap (items_at k) none, away)));
    };
    low = omega (arith, m.low, ap (λ l. highest (records l)) none);
    at = subst (λ l. R.remains d (records l, outer)) none m.at;
  }

  few_none : (items : List Item) → BeginsWithRecord items → records_in (records items) ≡ 0 → items ≡ []
  few_none [] begins few = refl
  few_none (i ∷ items) no_mark few =
      let one : records_in (records (i ∷ items)) ≡ suc (records_in (records items)) = ap (λ b. if b then records_in (records items) else suc (records_in (records items))) no_mark in
      absurd (omega (arith, few, one))

  pub through : {d : D} {parts : List P} {height : ℕ} {outer : Outside} {count bound : ℕ} (e : D) → (m : PartsRead d parts height outer count bound) →
      Advances R d e 0 (records m.todo, outer) (marks_passed (records m.todo), outer) (IsNextTag cs (records m.todo)) (Ok None) → R.depth_left e ≡ R.depth_left d → Through e parts height outer
  unfolding past_marks
  through e m moves kept =
      let moved = moves m.at in
      let f = is_front m.todo in
      none_left (past_marks e m moved.at kept) (few_none (front m.todo) f.begins (sym f.as_many ∙ no_records (records m.todo) (moved.answer.none refl)))

  -- where as many were read as there can be
  pub filled : {d : D} {parts : List P} {height : ℕ} {outer : Outside} {count bound : ℕ} (e : D) (answer : Option Tag) → (m : PartsRead d parts height outer count bound) → bound ≤ count →
      Advances R d e 0 (records m.todo, outer) (marks_passed (records m.todo), outer) (IsNextTag cs (records m.todo)) (Ok answer) → R.depth_left e ≡ R.depth_left d → Through e parts height outer
  unfolding past_marks
  filled e answer m full moves kept =
      let moved = moves m.at in
      let f = is_front m.todo in
      none_left (past_marks e m moved.at kept) (few_none (front m.todo) f.begins (omega (arith, m.few, full, f.as_many)))

  -- after a component was read
  pub further : {d : D} {parts : List P} {height : ℕ} {outer : Outside} {count bound index : ℕ} (e : D) (p : P) (a : ComponentComes d parts height outer count bound index) →
      index_of p ≡ index → IsPart p → highest (written_of cs v index) ≤ R.depth_left d → R.remains e (records a.todo, outer) → R.depth_left e ≡ R.depth_left d →
      PartsRead e (parts ++ p ∷ []) height outer (count + 1) bound
  further {parts = parts} e p a own is_part low at kept = record {
    todo = a.todo;
    one_each = a.one_each;
    are = a.are;
    each = All-push IsPart parts p a.each is_part;
    counted = λ k. omega (arith, parts_at-push index_of k parts p, a.counted k, ap {B = ℕ} (λ j. cond (j == k) 1 0) own);
    few = omega (arith, a.few);
    low = omega (arith, a.low, low, kept);
    no_deeper = omega (arith, a.no_deeper);
    at = at;
  }
