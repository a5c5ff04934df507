-- Slots that are in step with the parts of a SET that have come.
use Rattle.std.proofs.Common.{Bool, ◌≡◌, ◌≢◌, ◌⊎◌, ℕ, zero, suc, ◌+◌, ◌<◌, ◌≤◌, true, false, cond, List, [], ◌∷◌, ◌++◌, inl, inr, Result, append_assoc, length, length-append, refl, ap, sym, ◌∙◌, subst, arith}
use Rattle.std.specs.Prelude.{◌==◌}
use Rattle.std.proofs.lemmas.Bool.{and_parts}
use Rattle.std.proofs.lemmas.Bool.Decides.{nat_tests}
use Rattle.asn1_components.specs.ComponentLists.{EachIsOfType, EachIsValid, EachIsWellTagged, EachTreeIsDistinct, all_records, joined, parts_of, trees_of}
use Rattle.asn1_components.specs.ComponentTypes.{ComponentType}
use Rattle.asn1_components.specs.Following.{AllApart, ApartFromEach}
use Rattle.asn1_laws.proofs.ReadingSteps.{in_other_words}
use Rattle.asn1_laws.specs.Reading.{Outside, Reader, ReadsBack}
use Rattle.asn1_laws.specs.SetParts.{CanBeginWith, EachIsOneRecord, written_of}
use Rattle.asn1_laws.specs.declared.decode_error.DecodeError.{DecodeError}
use Rattle.asn1_model.specs.Records.{Record, unmarked}
use Rattle.asn1_model.specs.Tags.{Has, tree_tags}
use Rattle.asn1_tags.specs.Trees.{Tree, more, none}
use Rattle.asn1_tags.specs.declared.tags.Tag.{Tag}
use Rattle.asn1_slots.specs.PartsInSets.{AreOwnParts, one_more}
use Rattle.asn1_laws.proofs.UnmarkedRecords.{unmarked-append}
use Rattle.asn1_slots.specs.Slots.{AllAreKept, AreEmpty, AreInStep, HoldBefore, OthersAreKept, ReadsOnceAt, Slot, can_be_in_set, components_of, parts_of_slots}

is_other : (i k : ℕ) → i ≢ k → (i == k) ≡ false
is_other i k other = grind (arith, nat_tests)

same_test : (n i k : ℕ) → (n + i == n + k) ≡ (i == k)
same_test n i k = grind (arith, nat_tests)

-- as many of another index as before
as_before : (times : ℕ → ℕ) (i k : ℕ) → i ≢ k → times k ≡ one_more times i k
as_before times i k other = omega (arith, ap {B = ℕ} (λ b. cond b 1 0) (is_other i k other))

-- so it is with those after the first, by their indices
after_first : (times : ℕ → ℕ) (n i k : ℕ) → one_more (λ j. times (n + j)) i k ≡ one_more times (n + i) (n + k)
after_first times n i k = omega (arith, ap {B = ℕ} (λ b. cond b 1 0) (same_test n i k))

module _ {V : Type 0} where
  -- a tag of the parts of two components is one of the first, or of the second
  pub of_which : (ps qs : List (ComponentType V)) (k : ℕ) (t : Tag) → CanBeginWith (ps ++ qs) k t →
      CanBeginWith ps k t ⊎ ((g : ℕ) × ((k ≡ length ps + g) × CanBeginWith qs g t))
  of_which [] qs k t begins = inr (k, (omega arith, begins))
  of_which (p ∷ ps) qs zero t begins = inl begins
  of_which (p ∷ ps) qs (suc k) t begins = elim (of_which ps qs k t begins) [
    | inl first ↦ inl first
    | inr (g, (is, second)) ↦ inr (g, (omega (arith, is), second))
  ]

  begins_below : (ps : List (ComponentType V)) (k : ℕ) (t : Tag) → CanBeginWith ps k t → k < length ps
  begins_below [] k t begins = absurd begins
  begins_below (p ∷ ps) zero t begins = omega arith
  begins_below (p ∷ ps) (suc k) t begins = let below = begins_below ps k t begins in omega (arith, below)

  -- what is written of the first, and of the second
  written_first : (ps qs : List (ComponentType V)) (v : V) (k : ℕ) → k < length ps → written_of (ps ++ qs) v k ≡ written_of ps v k
  written_first [] qs v k below = absurd (omega (arith, below))
  written_first (p ∷ ps) qs v zero below = refl
  written_first (p ∷ ps) qs v (suc k) below = written_first ps qs v k (omega (arith, below))

  written_second : (ps qs : List (ComponentType V)) (v : V) (g : ℕ) → written_of (ps ++ qs) v (length ps + g) ≡ written_of qs v g
  written_second [] qs v g = let same : length {A = ComponentType V} [] + g ≡ g = omega arith in ap (written_of qs v) same
  written_second (p ∷ ps) qs v g =
      let same : length (p ∷ ps) + g ≡ suc (length ps + g) = omega arith in
      ap (written_of (p ∷ (ps ++ qs)) v) same ∙ written_second ps qs v g

  pub written_below : (ps : List (ComponentType V)) (v : V) (k : ℕ) → written_of ps v k ≢ [] → k < length ps
  written_below [] v k some = absurd (some refl)
  written_below (p ∷ ps) v zero some = omega arith
  written_below (p ∷ ps) v (suc k) some = let below = written_below ps v k some in omega (arith, below)

  one_each_append : (ps qs : List (ComponentType V)) (v : V) → EachIsOneRecord ps v → EachIsOneRecord qs v → EachIsOneRecord (ps ++ qs) v
  one_each_append [] qs v first second = second
  one_each_append (p ∷ ps) qs v first second = (first.0, one_each_append ps qs v first.1 second)

  well_tagged_append : (ps qs : List (ComponentType V)) → EachIsWellTagged ps → EachIsWellTagged qs → EachIsWellTagged (ps ++ qs)
  well_tagged_append [] qs first second = second
  well_tagged_append (p ∷ ps) qs first second = (first.0, well_tagged_append ps qs first.1 second)

  records_append : (ps qs : List (ComponentType V)) (v : V) → unmarked (all_records (ps ++ qs) v) ≡ unmarked (all_records ps v) ++ unmarked (all_records qs v)
  records_append [] qs v = refl
  records_append (p ∷ ps) qs v =
      unmarked-append (p.records v) (all_records (ps ++ qs) v)
      ∙ ap (λ l. unmarked (p.records v) ++ l) (records_append ps qs v)
      ∙ sym (append_assoc (unmarked (p.records v)) (unmarked (all_records ps v)) (unmarked (all_records qs v)))
      ∙ ap (λ l. l ++ unmarked (all_records qs v)) (sym (unmarked-append (p.records v) (all_records ps v)))

  -- components that share no tag with the first, and with the second
  apart_from_append : (tree : Tree) (ps qs : List (ComponentType V)) → ApartFromEach tree ps → ApartFromEach tree qs → ApartFromEach tree (ps ++ qs)
  apart_from_append tree [] qs first second = second
  apart_from_append tree (p ∷ ps) qs first second = (first.0, apart_from_append tree ps qs first.1 second)

  apart_from_all : (tree : Tree) (qs : List (ComponentType V)) → ((k : ℕ) (t : Tag) → Has (tree_tags tree) t → CanBeginWith qs k t → ⊥) → ApartFromEach tree qs
  apart_from_all tree [] apart = tt
  apart_from_all tree (q ∷ qs) apart = (λ t one other. apart zero t one other, apart_from_all tree qs (λ k t one other. apart (suc k) t one other))

  apart_append : (ps qs : List (ComponentType V)) → AllApart ps → ((j k : ℕ) (t : Tag) → CanBeginWith ps j t → CanBeginWith qs k t → ⊥) → AllApart qs → AllApart (ps ++ qs)
  apart_append [] qs first cross second = second
  apart_append (p ∷ ps) qs first cross second = (
    apart_from_append p.tree ps qs first.0 (apart_from_all p.tree qs (λ k t one other. cross zero k t one other)),
    apart_append ps qs first.1 (λ j k t one other. cross (suc j) k t one other) second,
  )

  -- a tag of these is none of those from which they are apart
  no_common : (tree : Tree) (cs : List (ComponentType V)) → ApartFromEach tree cs → (k : ℕ) (t : Tag) → Has (tree_tags tree) t → CanBeginWith cs k t → ⊥
  no_common tree [] apart k t one begins = absurd begins
  no_common tree (c ∷ cs) apart zero t one begins = apart.0 t one begins
  no_common tree (c ∷ cs) apart (suc k) t one begins = no_common tree cs apart.1 k t one begins

  own_append : (ps qs : List (ComponentType V)) → AreOwnParts ps → AreOwnParts qs → AreOwnParts (ps ++ qs)
  own_append [] qs first second = second
  own_append (p ∷ ps) qs first second = (first.0, own_append ps qs first.1 second)

  trees_append : (ps qs : List (ComponentType V)) → trees_of (ps ++ qs) ≡ joined (trees_of ps) (trees_of qs)
  trees_append [] qs = refl
  trees_append (p ∷ ps) qs = ap (λ trees. more p.tree trees) (trees_append ps qs)

module _ {S V : Type 0} where
  -- The part of this index is the one of this index of the slot of this index, and can begin with the tag.
  abbrev pub IsPlace : List (Slot S V) → Tag → ℕ → ℕ → ℕ → Type 0
  IsPlace [] t slot part k = ⊥
  IsPlace (h ∷ hs) t zero part k = CanBeginWith h.parts part t × (k ≡ part)
  IsPlace (h ∷ hs) t (suc slot) part k = (g : ℕ) × ((k ≡ length h.parts + g) × IsPlace hs t slot part g)

  pub record Place (hs : List (Slot S V)) (t : Tag) (k : ℕ) : Type 0 where
    pub slot : ℕ
    pub part : ℕ
    pub begins : CanBeginWith (components_of hs) slot t
    pub is : IsPlace hs t slot part k

  pub place_of : (hs : List (Slot S V)) → can_be_in_set hs ≡ true → (k : ℕ) (t : Tag) → CanBeginWith (parts_of_slots hs) k t → Place hs t k
  place_of [] all k t begins = absurd begins
  place_of (h ∷ hs) all k t begins =
      let both = and_parts h.is_in_set (can_be_in_set hs) all in
      elim (of_which h.parts (parts_of_slots hs) k t begins) [
        | inl first ↦ record { slot = zero; part = k; begins = (h.in_set both.0).within k t first; is = (first, refl) }
        | inr (g, (is, second)) ↦
            let later = place_of hs both.1 g t second in
            record { slot = suc later.slot; part = later.part; begins = later.begins; is = (g, (is, later.is)) }
      ]

  pub parts_apart : (hs : List (Slot S V)) → can_be_in_set hs ≡ true → EachTreeIsDistinct (components_of hs) → AllApart (components_of hs) → AllApart (parts_of_slots hs)
  parts_apart [] all distinct apart = tt
  parts_apart (h ∷ hs) all distinct apart =
      let both = and_parts h.is_in_set (can_be_in_set hs) all in
      apart_append h.parts (parts_of_slots hs) ((h.in_set both.0).apart distinct.0)
      (λ j k t one other.
      let place = place_of hs both.1 k t other in
      no_common h.component.tree (components_of hs) apart.0 place.slot t ((h.in_set both.0).within j t one) place.begins)
      (parts_apart hs both.1 distinct.1 apart.1)

  pub none_came : (hs : List (Slot S V)) → can_be_in_set hs ≡ true → (s : S) (v : V) → AreEmpty hs s → AreInStep hs (λ _. 0) s v
  none_came [] all s v empty = tt
  none_came (h ∷ hs) all s v empty =
      let both = and_parts h.is_in_set (can_be_in_set hs) all in
      (subst (λ o. h.InStep (λ _. 0) o v) (sym empty.0) ((h.in_set both.0).begins v), none_came hs both.1 s v empty.1)

  -- slots that are kept are in step, where the same parts have come
  pub kept_in_step : (hs : List (Slot S V)) → can_be_in_set hs ≡ true → (m n : ℕ → ℕ) (before after : S) (v : V) → AllAreKept hs before after →
      ((j : ℕ) → j < length (parts_of_slots hs) → m j ≡ n j) → AreInStep hs m before v → AreInStep hs n after v
  kept_in_step [] all m n before after v kept same step = tt
  kept_in_step (h ∷ hs) all m n before after v kept same step =
      let both = and_parts h.is_in_set (can_be_in_set hs) all in
      let long = length-append h.parts (parts_of_slots hs) in (
        subst (λ o. h.InStep n o v) (sym kept.0) ((h.in_set both.0).same m n (h.content before) v (λ j low. same j (omega (arith, low, long))) step.0),
        kept_in_step hs both.1 (λ j. m (length h.parts + j)) (λ j. n (length h.parts + j)) before after v kept.1 (λ j low. same (length h.parts + j) (omega (arith, low, long))) step.1,
      )

  -- where nothing was read, all are kept
  all_as_before : (hs : List (Slot S V)) (s : S) → AllAreKept hs s s
  all_as_before [] s = tt
  all_as_before (h ∷ hs) s = (refl, all_as_before hs s)

  pub times_in_step : (hs : List (Slot S V)) → can_be_in_set hs ≡ true → (m n : ℕ → ℕ) (s : S) (v : V) →
      ((j : ℕ) → j < length (parts_of_slots hs) → m j ≡ n j) → AreInStep hs m s v → AreInStep hs n s v
  times_in_step hs all m n s v same step = kept_in_step hs all m n s s v (all_as_before hs s) same step

  -- a call that reads a part that is there and has not come
  pub part_is_read : {D A : Type 0} (R : Reader D) (hs : List (Slot S V)) → can_be_in_set hs ≡ true → (t : Tag) (slot part k : ℕ) (times : ℕ → ℕ) (old new : D) (before after : S)
      (result : Result A DecodeError) → IsPlace hs t slot part k → ReadsOnceAt R hs slot t old new before after result → OthersAreKept hs slot before after →
      EachTreeIsDistinct (components_of hs) → (v : V) (rest : List Record) (outer : Outside) →
      EachIsWellTagged (components_of hs) → EachIsOfType (components_of hs) v → EachIsValid (components_of hs) R.accepts v →
      AreInStep hs times before v → times k ≡ 0 → written_of (parts_of_slots hs) v k ≢ [] →
      ReadsBack R old new (written_of (parts_of_slots hs) v k) rest outer (λ _. AreInStep hs (one_more times k) after v) result
  part_is_read R [] all t slot part k times old new before after result place reads kept distinct v rest outer can of_type valid step nothing some = absurd place
  part_is_read R (h ∷ hs) all t zero part k times old new before after result place reads kept distinct v rest outer can of_type valid step nothing some =
      let both = and_parts h.is_in_set (can_be_in_set hs) all in
      let below = begins_below h.parts part t place.0 in
      let written : written_of h.parts v part ≡ written_of (parts_of_slots (h ∷ hs)) v k =
      sym (written_first h.parts (parts_of_slots hs) v part below) ∙ ap (written_of (parts_of_slots (h ∷ hs)) v) (sym place.1) in
      subst (λ rs. ReadsBack R old new rs rest outer (λ _. AreInStep (h ∷ hs) (one_more times k) after v) result) written
      (in_other_words R old new _ _ _ result (λ _ own. (
        subst (λ i. h.InStep (one_more times i) (h.content after) v) (sym place.1) own,
        kept_in_step hs both.1 (λ j. times (length h.parts + j)) (λ j. one_more times k (length h.parts + j)) before after v kept
            (λ j low. as_before times k (length h.parts + j) (λ same. omega (arith, below, place.1, same))) step.1,
      ))
      ((h.in_set both.0).reads R t part times old new (h.content before) (h.content after) result reads place.0 distinct.0 v rest outer can.0 of_type.0 valid.0 step.0
      (ap times (sym place.1) ∙ nothing) (λ empty. some (sym written ∙ empty))))
  part_is_read R (h ∷ hs) all t (suc slot) part k times old new before after result (g, (is, place)) reads kept distinct v rest outer can of_type valid step nothing some =
      let both = and_parts h.is_in_set (can_be_in_set hs) all in
      let written : written_of (parts_of_slots hs) v g ≡ written_of (parts_of_slots (h ∷ hs)) v k =
      sym (written_second h.parts (parts_of_slots hs) v g) ∙ ap (written_of (parts_of_slots (h ∷ hs)) v) (sym is) in
      subst (λ rs. ReadsBack R old new rs rest outer (λ _. AreInStep (h ∷ hs) (one_more times k) after v) result) written
      (in_other_words R old new _ _ _ result (λ _ later. (
        subst (λ o. h.InStep (one_more times k) o v) (sym kept.0)
            ((h.in_set both.0).same times (one_more times k) (h.content before) v (λ j low. as_before times k j (λ same. omega (arith, low, is, same))) step.0),
        times_in_step hs both.1 (one_more (λ j. times (length h.parts + j)) g) (λ j. one_more times k (length h.parts + j)) after v
            (λ j low. after_first times (length h.parts) g j ∙ ap (λ i. one_more times i (length h.parts + j)) (sym is)) later,
      ))
      (part_is_read R hs both.1 t slot part g (λ j. times (length h.parts + j)) old new before after result place reads kept.1 distinct.1 v rest outer can.1 of_type.1 valid.1 step.1
      (ap times (sym is) ∙ nothing) (λ empty. some (sym written ∙ empty))))

  -- where all have come that are there
  pub hold_at_end : (hs : List (Slot S V)) → can_be_in_set hs ≡ true → (accepts : List ℕ → Bool) (times : ℕ → ℕ) (s : S) (v : V) →
      EachIsWellTagged (components_of hs) → EachIsValid (components_of hs) accepts v → AreInStep hs times s v →
      ((k : ℕ) → written_of (parts_of_slots hs) v k ≢ [] → times k ≢ 0) → HoldBefore hs (length hs) s v
  hold_at_end [] all accepts times s v can valid step complete = tt
  hold_at_end (h ∷ hs) all accepts times s v can valid step complete =
      let both = and_parts h.is_in_set (can_be_in_set hs) all in (
        (h.in_set both.0).holds_at_end accepts times (h.content s) v can.0 valid.0 step.0
            (λ j some. complete j (λ nothing. some (sym (written_first h.parts (parts_of_slots hs) v j (written_below h.parts v j some)) ∙ nothing))),
        hold_at_end hs both.1 accepts (λ j. times (length h.parts + j)) s v can.1 valid.1 step.1
            (λ j some. complete (length h.parts + j) (λ nothing. some (sym (written_second h.parts (parts_of_slots hs) v j) ∙ nothing))),
      )

  -- the parts of well-tagged components
  pub each_well_tagged : (hs : List (Slot S V)) → can_be_in_set hs ≡ true → EachIsWellTagged (components_of hs) → EachIsWellTagged (parts_of_slots hs)
  each_well_tagged [] all can = tt
  each_well_tagged (h ∷ hs) all can =
      let both = and_parts h.is_in_set (can_be_in_set hs) all in
      well_tagged_append h.parts (parts_of_slots hs) ((h.in_set both.0).well_tagged can.0) (each_well_tagged hs both.1 can.1)

  pub each_is_one : (hs : List (Slot S V)) → can_be_in_set hs ≡ true → EachIsWellTagged (components_of hs) → (v : V) → EachIsOneRecord (parts_of_slots hs) v
  each_is_one [] all can v = tt
  each_is_one (h ∷ hs) all can v =
      let both = and_parts h.is_in_set (can_be_in_set hs) all in
      one_each_append h.parts (parts_of_slots hs) v ((h.in_set both.0).one_each can.0 v) (each_is_one hs both.1 can.1 v)

  -- and what is written of them
  pub written_in_parts : (hs : List (Slot S V)) → can_be_in_set hs ≡ true → (v : V) → unmarked (all_records (components_of hs) v) ≡ unmarked (all_records (parts_of_slots hs) v)
  written_in_parts [] all v = refl
  written_in_parts (h ∷ hs) all v =
      let both = and_parts h.is_in_set (can_be_in_set hs) all in
      unmarked-append (h.component.records v) (all_records (components_of hs) v)
      ∙ ap (λ l. l ++ unmarked (all_records (components_of hs) v)) ((h.in_set both.0).written v)
      ∙ ap (λ l. unmarked (all_records h.parts v) ++ l) (written_in_parts hs both.1 v)
      ∙ sym (records_append h.parts (parts_of_slots hs) v)

  pub each_is_own : (hs : List (Slot S V)) → can_be_in_set hs ≡ true → AreOwnParts (parts_of_slots hs)
  each_is_own [] all = tt
  each_is_own (h ∷ hs) all =
      let both = and_parts h.is_in_set (can_be_in_set hs) all in
      own_append h.parts (parts_of_slots hs) (h.in_set both.0).own (each_is_own hs both.1)

  -- and their trees
  pub trees_in_parts : (hs : List (Slot S V)) → can_be_in_set hs ≡ true → parts_of (components_of hs) ≡ trees_of (parts_of_slots hs)
  trees_in_parts [] all = refl
  trees_in_parts (h ∷ hs) all =
      let both = and_parts h.is_in_set (can_be_in_set hs) all in
      ap (λ trees. joined trees (parts_of (components_of hs))) (h.in_set both.0).trees
      ∙ ap (λ trees. joined (trees_of h.parts) trees) (trees_in_parts hs both.1)
      ∙ sym (trees_append h.parts (parts_of_slots hs))
