-- How the components of a SET are read into slots, in whatever order they come.
use Rattle.std.proofs.Common.{◌≡◌, ◌≢◌, ℕ, zero, suc, ◌+◌, ◌≤◌, true, cond, List, [], ◌∷◌, ◌++◌, inl, inr, Option, Some, None, Result, Ok, Err, Bool, length, refl, ap, sym, ◌∙◌, subst, arith}
use Rattle.std.specs.Prelude.{◌==◌, ⊤, IsPermutation}
use Rattle.std.proofs.lemmas.Bool.Decides.{nat_tests}
use Rattle.std.proofs.lemmas.List.Elements.{All-nil}
use Rattle.std.proofs.lemmas.List.Sorted.{All-permutation, IsPermutation-sym}
use Rattle.std.proofs.lemmas.List.Sums.{sum_by-append, sum_by-cons}
use Rattle.asn1_components.specs.ComponentLists.{EachIsOfType, EachIsValid, EachIsWellTagged, EachTreeIsDistinct, all_records, joined, parts_of, trees_of}
use Rattle.asn1_components.specs.ComponentTypes.{ComponentType}
use Rattle.asn1_components.specs.Following.{AllApart, ApartFromEach}
use Rattle.asn1_laws.proofs.ReadingSets.{ComponentComes, PartsRead, Through, comes, filled, further, not_told, same_component, through}
use Rattle.asn1_laws.proofs.ReadingSteps.{in_other_words}
use Rattle.asn1_laws.proofs.Rearrangements.{made_of}
use Rattle.asn1_laws.proofs.SetRecords.{IsAll, Item, all_are, as_many_as_written, at_most_one, items_at-permutation, items_from, records, their_records}
use Rattle.asn1_laws.specs.Reading.{Advances, HasAdvanced, IsNextTag, MayFail, Outside, Reader, ReadsBack, Remaining, TellsComponent, TellsTree, marks_passed, records_in}
use Rattle.asn1_laws.specs.SetParts.{CanBeginWith, parts_at, written_of}
use Rattle.asn1_laws.specs.declared.decode_error.DecodeError.{DecodeError}
use Rattle.asn1_laws.specs.declared.decode_error.DecodeError.TheVariants.{Depth, Memory}
use Rattle.asn1_model.specs.Records.{Record, highest, unmarked}
use Rattle.asn1_model.specs.Tags.{Has, ShareNone, Tags, first_tags, tree_tags}
use Rattle.asn1_tags.specs.Tags.{distinct}
use Rattle.asn1_tags.specs.Trees.{Tree, Trees, leaves, more, none}
use Rattle.asn1_tags.specs.declared.tags.Tag.{Tag}
use Rattle.asn1_slots.proofs.SetItems.{unmarked-all, unmarked-counts, unmarked-records, unmarked_items, woven, woven-all, woven-counts, woven-records}
use Rattle.asn1_slots.specs.SlotsInStep.{IsPlace, each_is_one, each_is_own, each_well_tagged, hold_at_end, none_came, part_is_read, place_of, times_in_step, trees_in_parts, written_in_parts}
use Rattle.asn1_slots.specs.PartsInSets.{AreOwnParts, one_more}
use Rattle.asn1_slots.specs.Slots.{AreEmpty, AreInStep, AreSlotsOf, HoldBefore, OthersAreKept, ReadsOnceAt, Slot, can_be_in_set, components_of, parts_of_slots}

-- how often the part of this index has come
abbrev times : List ℕ → ℕ → ℕ
times came k = parts_at (λ i. i) k came

times-push : (came : List ℕ) (i k : ℕ) → one_more (times came) i k ≡ times (came ++ i ∷ []) k
times-push came i k = omega (arith, sum_by-append (λ j. cond (j == k) 1 0) came (i ∷ []), sum_by-cons (λ j. cond (j == k) 1 0) i [])

is_same : (i k : ℕ) → i ≡ k → (i == k) ≡ true
is_same i k same = grind (arith, nat_tests)

-- what tells of trees tells of what has them
tells_joined : (first second : Trees) (own : Tags) (t : Tag) → TellsTree first own t → TellsTree second own t → TellsTree (joined first second) own t
tells_joined none second own t one other = other
tells_joined (more tree trees) second own t one other = (one.0, tells_joined trees second own t one.1 other)

tells_parts : {V : Type 0} (ps : List (ComponentType V)) (own : Tags) (t : Tag) → AreOwnParts ps → TellsTree (trees_of ps) own t → TellsComponent ps own t
tells_parts [] own t are tells = tt
tells_parts (p ∷ ps) own t are tells =
    ((tells.0, subst (λ trees. TellsTree trees own t) (sym are.0) (tells.0, tt)), tells_parts ps own t are.1 tells.1)

module _ {S V : Type 0} where
  -- the components of a type are those of its slots
  pub well_tagged_slots : (cs : List (ComponentType V)) (hs : List (Slot S V)) → AreSlotsOf cs hs → V → EachIsWellTagged cs → EachIsWellTagged (components_of hs)
  well_tagged_slots [] [] all v can = tt
  well_tagged_slots [] (h ∷ hs) all v can = absurd all
  well_tagged_slots (c ∷ cs) [] all v can = absurd all
  well_tagged_slots (c ∷ cs) (h ∷ hs) all v can = ((all.0.0 v).0 can.0, well_tagged_slots cs hs all.1 v can.1)

  of_type_slots : (cs : List (ComponentType V)) (hs : List (Slot S V)) → AreSlotsOf cs hs → (v : V) → EachIsOfType cs v → EachIsOfType (components_of hs) v
  of_type_slots [] [] all v are = tt
  of_type_slots [] (h ∷ hs) all v are = absurd all
  of_type_slots (c ∷ cs) [] all v are = absurd all
  of_type_slots (c ∷ cs) (h ∷ hs) all v are = ((all.0.0 v).1 are.0, of_type_slots cs hs all.1 v are.1)

  valid_slots : (cs : List (ComponentType V)) (hs : List (Slot S V)) → AreSlotsOf cs hs → (accepts : List ℕ → Bool) (v : V) → EachIsValid cs accepts v → EachIsValid (components_of hs) accepts v
  valid_slots [] [] all accepts v are = tt
  valid_slots [] (h ∷ hs) all accepts v are = absurd all
  valid_slots (c ∷ cs) [] all accepts v are = absurd all
  valid_slots (c ∷ cs) (h ∷ hs) all accepts v are = ((all.0.0 v).2 accepts are.0, valid_slots cs hs all.1 accepts v are.1)

  pub records_slots : (cs : List (ComponentType V)) (hs : List (Slot S V)) → AreSlotsOf cs hs → (v : V) → all_records cs v ≡ all_records (components_of hs) v
  records_slots [] [] all v = refl
  records_slots [] (h ∷ hs) all v = absurd all
  records_slots (c ∷ cs) [] all v = absurd all
  records_slots (c ∷ cs) (h ∷ hs) all v = ap (λ rs. rs ++ all_records cs v) (all.0.0 v).4 ∙ ap (λ l. h.component.records v ++ l) (records_slots cs hs all.1 v)

  pub begins_slots : (cs : List (ComponentType V)) (hs : List (Slot S V)) → AreSlotsOf cs hs → (k : ℕ) (t : Tag) → CanBeginWith cs k t → CanBeginWith (components_of hs) k t
  begins_slots [] hs all k t begins = absurd begins
  begins_slots (c ∷ cs) [] all k t begins = absurd all
  begins_slots (c ∷ cs) (h ∷ hs) all zero t begins = subst (λ tree. Has (tree_tags tree) t) all.0.1 begins
  begins_slots (c ∷ cs) (h ∷ hs) all (suc k) t begins = begins_slots cs hs all.1 k t begins

  pub slots_begin : (cs : List (ComponentType V)) (hs : List (Slot S V)) → AreSlotsOf cs hs → (k : ℕ) (t : Tag) → CanBeginWith (components_of hs) k t → CanBeginWith cs k t
  slots_begin [] [] all k t begins = absurd begins
  slots_begin [] (h ∷ hs) all k t begins = absurd all
  slots_begin (c ∷ cs) [] all k t begins = absurd begins
  slots_begin (c ∷ cs) (h ∷ hs) all zero t begins = subst (λ tree. Has (tree_tags tree) t) (sym all.0.1) begins
  slots_begin (c ∷ cs) (h ∷ hs) all (suc k) t begins = slots_begin cs hs all.1 k t begins

  pub distinct_slots : (cs : List (ComponentType V)) (hs : List (Slot S V)) → AreSlotsOf cs hs → EachTreeIsDistinct cs → EachTreeIsDistinct (components_of hs)
  distinct_slots [] [] all are = tt
  distinct_slots [] (h ∷ hs) all are = absurd all
  distinct_slots (c ∷ cs) [] all are = absurd all
  distinct_slots (c ∷ cs) (h ∷ hs) all are = (subst (λ tree. distinct (leaves tree) ≡ true) all.0.1 are.0, distinct_slots cs hs all.1 are.1)

  apart_from_slots : (cs : List (ComponentType V)) (hs : List (Slot S V)) → AreSlotsOf cs hs → (tree : Tree) → ApartFromEach tree cs → ApartFromEach tree (components_of hs)
  apart_from_slots [] [] all tree apart = tt
  apart_from_slots [] (h ∷ hs) all tree apart = absurd all
  apart_from_slots (c ∷ cs) [] all tree apart = absurd all
  apart_from_slots (c ∷ cs) (h ∷ hs) all tree apart = (subst (λ other. ShareNone (tree_tags tree) (tree_tags other)) all.0.1 apart.0, apart_from_slots cs hs all.1 tree apart.1)

  pub apart_slots : (cs : List (ComponentType V)) (hs : List (Slot S V)) → AreSlotsOf cs hs → AllApart cs → AllApart (components_of hs)
  apart_slots [] [] all apart = tt
  apart_slots [] (h ∷ hs) all apart = absurd all
  apart_slots (c ∷ cs) [] all apart = absurd all
  apart_slots (c ∷ cs) (h ∷ hs) all apart =
      (subst (λ tree. ApartFromEach tree (components_of hs)) all.0.1 (apart_from_slots cs hs all.1 c.tree apart.0), apart_slots cs hs all.1 apart.1)

  tells_slots : (cs : List (ComponentType V)) (hs : List (Slot S V)) → AreSlotsOf cs hs → (own : Tags) (t : Tag) → TellsComponent cs own t → TellsTree (parts_of (components_of hs)) own t
  tells_slots [] [] all own t tells = tt
  tells_slots [] (h ∷ hs) all own t tells = absurd all
  tells_slots (c ∷ cs) [] all own t tells = absurd all
  tells_slots (c ∷ cs) (h ∷ hs) all own t tells =
      tells_joined h.component.parts (parts_of (components_of hs)) own t (subst (λ trees. TellsTree trees own t) all.0.2 tells.0.1) (tells_slots cs hs all.1 own t tells.1)

-- an answer in the place of an error, which is the error where memory or depth was not enough
pub same_failure : {depth height : ℕ} {error answer : DecodeError} → (error ≡ Memory → answer ≡ Memory) → (error ≡ Depth → answer ≡ Depth) →
    MayFail depth height error → MayFail depth height answer
same_failure memory depth (inl is) = inl (memory is)
same_failure memory depth (inr is) = inr (depth is.0, is.1)

module _ {D S V : Type 0} (R : Reader D) (cs : List (ComponentType V)) (hs : List (Slot S V)) (v : V) where
  -- Some parts were read into their slots, and others are left. The records of all are so high.
  pub record SlotsRead (d : D) (s : S) (height : ℕ) (outer : Outside) (count bound : ℕ) : Type 0 where
    pub came : List ℕ
    pub so_far : PartsRead R (parts_of_slots hs) v (λ i. i) (λ _. ⊤) d came height outer count bound
    pub in_step : AreInStep hs (times came) s v

  -- The same, where a part comes that can begin with the tag, of the component of this index.
  pub record SlotComes (d : D) (s : S) (height : ℕ) (outer : Outside) (count bound : ℕ) (t : Tag) (index : ℕ) : Type 0 where
    pub came : List ℕ
    pub part : ℕ
    pub among_all : ℕ
    pub place : IsPlace hs t index part among_all
    pub next : ComponentComes R (parts_of_slots hs) v (λ i. i) (λ _. ⊤) d came height outer count bound among_all
    pub in_step : AreInStep hs (times came) s v

  module _ (all : AreSlotsOf cs hs) (ready : can_be_in_set hs ≡ true) (can : EachIsWellTagged cs) where
    can_be : EachIsWellTagged (components_of hs)
    can_be = well_tagged_slots cs hs all v can

    -- what is written without marks
    same_unmarked : unmarked (all_records cs v) ≡ records (unmarked_items (items_from 0 (parts_of_slots hs) v))
    same_unmarked =
        ap unmarked (records_slots cs hs all v) ∙ written_in_parts hs ready v
        ∙ ap unmarked (sym (their_records 0 (parts_of_slots hs) v)) ∙ sym (unmarked-records (items_from 0 (parts_of_slots hs) v))

    pub begin : (d : D) (s : S) (items : List Record) (outer : Outside) (bound : ℕ) → AreEmpty hs s → IsPermutation items (all_records cs v) → records_in items ≤ bound → R.remains d (items, outer) →
        SlotsRead d s (highest items) outer 0 bound
    begin d s items outer bound empty moved few at =
        let ps = parts_of_slots hs in
        let named = unmarked_items (items_from 0 ps v) in
        let labelled = woven (all_records cs v) named in
        let one = each_is_one hs ready can_be v in
        let made = made_of (λ (i : Item). i.1) items labelled (subst (IsPermutation items) (sym (woven-records (all_records cs v) named)) moved) in
        let high : highest items ≡ highest (records made.order) = ap highest made.is in
        record {
          came = [];
          so_far = record {
            todo = made.order;
            one_each = one;
            are = All-permutation (IsAll ps v) labelled made.order (IsPermutation-sym made.order labelled made.rearranged)
                (woven-all ps v (all_records cs v) named same_unmarked (unmarked-all (IsAll ps v) (items_from 0 ps v)
                (all_are ps ps 0 v (λ i. let same : 0 + i ≡ i = omega arith in ap (written_of ps v) same) one)));
            each = All-nil (λ _. ⊤);
            counted = λ k.
                let all_counted = items_at-permutation k made.order labelled made.rearranged ∙ woven-counts k (all_records cs v) named same_unmarked
                ∙ unmarked-counts k (items_from 0 ps v) ∙ as_many_as_written ps 0 k k v (omega arith) in
                omega (arith, all_counted);
            few = omega (arith, few, ap records_in made.is);
            low = omega (arith, high);
            no_deeper = omega (arith, high);
            at = subst (λ l. R.remains d (l, outer)) made.is at;
          };
          in_step = times_in_step hs ready (λ _. 0) (times []) s v (λ j low. refl) (none_came hs ready s v empty);
        }

    -- the next tag tells of a part
    next_part : (items : List Record) (next : Option Tag) → IsNextTag cs items next → IsNextTag (parts_of_slots hs) items next
    next_part items next is = record {
      none = is.none;
      some = λ t e.
          let told = is.some t e in (
            told.0,
            (
              told.1.0,
              tells_parts (parts_of_slots hs) (first_tags items) t (each_is_own hs ready)
                  (subst (λ trees. TellsTree trees (first_tags items) t) (trees_in_parts hs ready) (tells_slots cs hs all (first_tags items) t told.1.1)),
            ),
          );
    }

    in_parts : (d e : D) (items : List Record) (before after : Remaining) (result : Result (Option Tag) DecodeError) →
        Advances R d e 0 before after (IsNextTag cs items) result → Advances R d e 0 before after (IsNextTag (parts_of_slots hs) items) result
    in_parts d e items before after result moves = in_other_words R d e 0 before after result (λ next is. next_part items next is) moves

    -- where the next tag could not be told
    pub next_not_told : (e : D) {d : D} {s : S} {height : ℕ} {outer : Outside} {count bound : ℕ} {error : DecodeError} (b h : ℕ) (m : SlotsRead d s height outer count bound) →
        Advances R d e 0 (records m.so_far.todo, outer) (marks_passed (records m.so_far.todo), outer) (IsNextTag cs (records m.so_far.todo)) (Err error) → MayFail b h error
    next_not_told e {outer = outer} {error = error} b h m moves = not_told R (parts_of_slots hs) v (λ i. i) (λ _. ⊤) e b h m.so_far (in_parts _ e (records m.so_far.todo) (records m.so_far.todo, outer) (marks_passed (records m.so_far.todo), outer) (Err error) moves)

    -- the part that comes has not come before
    not_yet : {d : D} {height : ℕ} {outer : Outside} {count bound index : ℕ} (came : List ℕ) (comes : ComponentComes R (parts_of_slots hs) v (λ i. i) (λ _. ⊤) d came height outer count bound index) → times came index ≡ 0
    not_yet {index = index} came comes =
        omega (arith, comes.counted index, at_most_one (parts_of_slots hs) v index comes.one_each, ap {B = ℕ} (λ b. cond b 1 0) (is_same index index refl))

    pub reads : {A : Type 0} {d : D} {s : S} {height : ℕ} {outer : Outside} {count bound index : ℕ} {t : Tag} (e : D) (after : S) (result : Result A DecodeError) (comes : SlotComes d s height outer count bound t index) →
        EachTreeIsDistinct cs → EachIsOfType cs v → EachIsValid cs R.accepts v → ReadsOnceAt R hs index t d e s after result → OthersAreKept hs index s after →
        ReadsBack R d e (written_of (parts_of_slots hs) v comes.among_all) (records comes.next.todo) outer (λ _. AreInStep hs (one_more (times comes.came) comes.among_all) after v) result
    reads {d = d} {s = s} {index = index} {t = t} e after result comes distinct of_type valid once kept =
        part_is_read R hs ready t index comes.part comes.among_all (times comes.came) d e s after result comes.place once kept
        (distinct_slots cs hs all distinct) v (records comes.next.todo) _ can_be (of_type_slots cs hs all v of_type) (valid_slots cs hs all R.accepts v valid)
        comes.in_step (not_yet comes.came comes.next) comes.next.is_there

    -- after it was read
    pub one_further : {d : D} {s : S} {height : ℕ} {outer : Outside} {count bound index : ℕ} {t : Tag} (e : D) (after : S) (comes : SlotComes d s height outer count bound t index) →
        HasAdvanced R d e (highest (written_of (parts_of_slots hs) v comes.among_all)) (records comes.next.todo, outer) (AreInStep hs (one_more (times comes.came) comes.among_all) after v) → R.depth_left e ≡ R.depth_left d →
        SlotsRead e after height outer (count + 1) bound
    one_further e after comes moved same = record {
      came = comes.came ++ comes.among_all ∷ [];
      so_far = further R (parts_of_slots hs) v (λ i. i) (λ _. ⊤) e comes.among_all comes.next refl tt moved.within_depth_left moved.at same;
      in_step = times_in_step hs ready (one_more (times comes.came) comes.among_all) (times (comes.came ++ comes.among_all ∷ [])) after v (λ j low. times-push comes.came comes.among_all j) moved.answer;
    }

    -- where a part comes, of the component that begins with the tag
    pub comes_next : {d : D} {s : S} {height : ℕ} {outer : Outside} {count bound : ℕ} (e : D) (t : Tag) (index : ℕ) (m : SlotsRead d s height outer count bound) → AllApart cs → CanBeginWith cs index t →
        Advances R d e 0 (records m.so_far.todo, outer) (marks_passed (records m.so_far.todo), outer) (IsNextTag cs (records m.so_far.todo)) (Ok (Some t)) → R.depth_left e ≡ R.depth_left d →
        SlotComes e s height outer count bound t index
    comes_next {d = d} {outer = outer} e t index m apart begins moves same =
        let a = comes R (parts_of_slots hs) v (λ i. i) (λ _. ⊤) e t (each_well_tagged hs ready can_be) m.so_far (in_parts d e (records m.so_far.todo) (records m.so_far.todo, outer) (marks_passed (records m.so_far.todo), outer) (Ok (Some t)) moves) same in
        let place = place_of hs ready a.index t a.begins in
        record {
          came = m.came;
          part = place.part;
          among_all = a.index;
          place = subst (λ i. IsPlace hs t i place.part a.index) (same_component (components_of hs) place.slot index t (apart_slots cs hs all apart) place.begins (begins_slots cs hs all index t begins)) place.is;
          next = a.comes;
          in_step = m.in_step;
        }

    -- the component that comes is one of them
    pub one_begins : {d : D} {s : S} {height : ℕ} {outer : Outside} {count bound : ℕ} {P : Type 0} (e : D) (t : Tag) (m : SlotsRead d s height outer count bound) → ((k : ℕ) → CanBeginWith cs k t → ⊥) →
        Advances R d e 0 (records m.so_far.todo, outer) (marks_passed (records m.so_far.todo), outer) (IsNextTag cs (records m.so_far.todo)) (Ok (Some t)) → R.depth_left e ≡ R.depth_left d → P
    one_begins {d = d} {outer = outer} e t m cannot moves same =
        let a = comes R (parts_of_slots hs) v (λ i. i) (λ _. ⊤) e t (each_well_tagged hs ready can_be) m.so_far (in_parts d e (records m.so_far.todo) (records m.so_far.todo, outer) (marks_passed (records m.so_far.todo), outer) (Ok (Some t)) moves) same in
        let place = place_of hs ready a.index t a.begins in
        absurd (cannot place.slot (slots_begin cs hs all place.slot t place.begins))

    all_hold : (accepts : List ℕ → Bool) {d : D} {height : ℕ} {outer : Outside} (s : S) (came : List ℕ) → EachIsValid cs accepts v → Through R (parts_of_slots hs) v (λ i. i) (λ _. ⊤) d came height outer → AreInStep hs (times came) s v →
        HasAdvanced R d d height ([], outer) (HoldBefore hs (length hs) s v)
    all_hold accepts s came valid t in_step = record {
      answer = hold_at_end hs ready accepts (times came) s v can_be (valid_slots cs hs all accepts v valid) in_step t.parts_are.complete;
      at = t.at;
      within_depth_left = t.low;
    }

    -- where none is left
    pub none_is_left : {d : D} {s : S} {height : ℕ} {outer : Outside} {count bound : ℕ} (e : D) (m : SlotsRead d s height outer count bound) → EachIsValid cs R.accepts v →
        Advances R d e 0 (records m.so_far.todo, outer) (marks_passed (records m.so_far.todo), outer) (IsNextTag cs (records m.so_far.todo)) (Ok None) → R.depth_left e ≡ R.depth_left d →
        HasAdvanced R e e height ([], outer) (HoldBefore hs (length hs) s v)
    none_is_left {d = d} {s = s} {outer = outer} e m valid moves same =
        all_hold R.accepts s m.came valid (through R (parts_of_slots hs) v (λ i. i) (λ _. ⊤) e m.so_far (in_parts d e (records m.so_far.todo) (records m.so_far.todo, outer) (marks_passed (records m.so_far.todo), outer) (Ok None) moves) same) m.in_step

    -- where as many were read as there can be
    pub as_many_as_can : {d : D} {s : S} {height : ℕ} {outer : Outside} {count bound : ℕ} (e : D) (answer : Option Tag) (m : SlotsRead d s height outer count bound) → EachIsValid cs R.accepts v → bound ≤ count →
        Advances R d e 0 (records m.so_far.todo, outer) (marks_passed (records m.so_far.todo), outer) (IsNextTag cs (records m.so_far.todo)) (Ok answer) → R.depth_left e ≡ R.depth_left d →
        HasAdvanced R e e height ([], outer) (HoldBefore hs (length hs) s v)
    as_many_as_can {d = d} {s = s} {outer = outer} e answer m valid full moves same =
        all_hold R.accepts s m.came valid (filled R (parts_of_slots hs) v (λ i. i) (λ _. ⊤) e answer m.so_far full (in_parts d e (records m.so_far.todo) (records m.so_far.todo, outer) (marks_passed (records m.so_far.todo), outer) (Ok answer) moves) same) m.in_step
