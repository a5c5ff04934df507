-- How the records that come for the slots of a SET add up, and are read as its components.
use Rattle.std.specs.Prelude.{◌≡◌, ◌++◌, ◌<◌, ◌&&◌, ℕ, zero, suc, Bool, true, List, [], ◌∷◌, length, IsPermutation, Ok, refl}
use Rattle.std.proofs.Common.{◌∙◌, ap, append_assoc, append-nil, arith, subst, sym}
use Rattle.std.proofs.lemmas.Bool.{and_parts}
use Rattle.std.proofs.lemmas.List.Sorted.{IsPermutation-append, IsPermutation-append_comm, IsPermutation-append_left, IsPermutation-append_right, IsPermutation-refl, IsPermutation-trans}
use Rattle.asn1_components.specs.ComponentLists.{AreReadInAnyOrder}
use Rattle.asn1_components.specs.ComponentTypes.{ComponentType}
use Rattle.asn1_laws.proofs.UnmarkedRecords.{unmarked-append}
use Rattle.asn1_laws.specs.Reading.{Reader}
use Rattle.asn1_laws.specs.ReadingExactly.{WasRead}
use Rattle.asn1_model.specs.Records.{Record, unmarked}
use Rattle.asn1_slots.specs.Slots.{AllAreKept, AreEmpty, AreOf, AreSlotsOf, ComesAt, HaveCome, OthersAreKept, ReadsOnceAt, SameComponent, Slot, can_be_in_set, components_of}
use Rattle.asn1_tags.specs.declared.tags.Tag.{Tag}

-- records that are behind some, which are rearranged, and others in front of these
behind_others : (rs own others added : List Record) → IsPermutation (unmarked rs) (unmarked own ++ unmarked others) →
    IsPermutation (unmarked (rs ++ added)) (unmarked own ++ unmarked (others ++ added))
behind_others rs own others added moved =
    subst (λ l. IsPermutation l (unmarked own ++ unmarked (others ++ added))) (sym (unmarked-append rs added))
    (subst (λ l. IsPermutation (unmarked rs ++ unmarked added) l)
    (append_assoc (unmarked own) (unmarked others) (unmarked added) ∙ ap (λ l. unmarked own ++ l) (sym (unmarked-append others added)))
    (IsPermutation-append_left (unmarked added) (unmarked rs) (unmarked own ++ unmarked others) moved))

behind_own : (rs own others added : List Record) → IsPermutation (unmarked rs) (unmarked own ++ unmarked others) →
    IsPermutation (unmarked (rs ++ added)) (unmarked (own ++ added) ++ unmarked others)
behind_own rs own others added moved =
    IsPermutation-trans (unmarked (rs ++ added)) (unmarked own ++ unmarked (others ++ added)) (unmarked (own ++ added) ++ unmarked others)
    (behind_others rs own others added moved)
    (subst (λ l. IsPermutation (unmarked own ++ unmarked (others ++ added)) l)
    (sym (append_assoc (unmarked own) (unmarked added) (unmarked others)) ∙ ap (λ l. l ++ unmarked others) (sym (unmarked-append own added)))
    (IsPermutation-append_right (unmarked own) (unmarked (others ++ added)) (unmarked added ++ unmarked others)
    (subst (λ l. IsPermutation l (unmarked added ++ unmarked others)) (sym (unmarked-append others added)) (IsPermutation-append_comm (unmarked others) (unmarked added)))))

own_component : {V : Type 0} (c : ComponentType V) → SameComponent c c
own_component c = ((λ v. (λ can. can, λ of_type. of_type, λ accepts valid. valid, λ rest apart. apart, refl, λ rs read. read)), refl, refl)

module _ {S V : Type 0} where
  -- nothing has come for slots that are empty
  pub none_have_come : (hs : List (Slot S V)) → can_be_in_set hs ≡ true → (s : S) → AreEmpty hs s → HaveCome hs s []
  none_have_come [] can s empty = refl
  none_have_come (h ∷ hs) can s empty =
      let both = and_parts h.is_in_set (can_be_in_set hs) can in
      ([], [], subst (λ slot. h.HasCome slot []) (sym empty.0) (h.comes_in_set both.0).nothing, none_have_come hs both.1 s empty.1, IsPermutation-refl [])

  pub kept_have_come : (hs : List (Slot S V)) (before after : S) (rs : List Record) → AllAreKept hs before after → HaveCome hs before rs → HaveCome hs after rs
  kept_have_come [] before after rs kept have = have
  kept_have_come (h ∷ hs) before after rs kept (own, others, has, are, moved) =
      (own, others, subst (λ slot. h.HasCome slot own) (sym kept.0) has, kept_have_come hs before after others kept.1 are, moved)

  -- what is read into the slot at an index is added there
  pub comes_at : {D A : Type 0} (R : Reader D) (t : Tag) (old new : D) (x : A) (hs : List (Slot S V)) (index : ℕ) (before after : S) → index < length hs → can_be_in_set hs ≡ true →
      ReadsOnceAt R hs index t old new before after (Ok x) → WasRead R old new (ComesAt hs index before after)
  comes_at R t old new x [] index before after low can reads = absurd (omega (arith, low))
  comes_at {D = D} {A = A} R t old new x (h ∷ hs) zero before after low can reads =
      (h.comes_in_set (and_parts h.is_in_set (can_be_in_set hs) can).0).comes D A R t old new (h.content before) (h.content after) x reads
  comes_at R t old new x (h ∷ hs) (suc index) before after low can reads =
      comes_at R t old new x hs index before after (omega (arith, low)) (and_parts h.is_in_set (can_be_in_set hs) can).1 reads

  pub added_at : (hs : List (Slot S V)) → can_be_in_set hs ≡ true → (index : ℕ) (before after : S) (rs added : List Record) → OthersAreKept hs index before after →
      ComesAt hs index before after added → HaveCome hs before rs → HaveCome hs after (rs ++ added)
  added_at [] can index before after rs added kept comes have = absurd comes
  added_at (h ∷ hs) can zero before after rs added kept comes (own, others, has, are, moved) = (
    own ++ added,
    others,
    (h.comes_in_set (and_parts h.is_in_set (can_be_in_set hs) can).0).came (h.content before) (h.content after) own added has comes,
    kept_have_come hs before after others kept are,
    behind_own rs own others added moved,
  )
  added_at (h ∷ hs) can (suc index) before after rs added kept comes (own, others, has, are, moved) = (
    own,
    others ++ added,
    subst (λ slot. h.HasCome slot own) (sym kept.0) has,
    added_at hs (and_parts h.is_in_set (can_be_in_set hs) can).1 index before after others added kept.1 comes are,
    behind_others rs own others added moved,
  )

  -- what has come is read as the components of a value that has what the slots have
  pub read_in_any_order : (cs : List (ComponentType V)) (hs : List (Slot S V)) → AreSlotsOf cs hs → can_be_in_set hs ≡ true → (s : S) (v : V) (rs : List Record) →
      AreOf hs s v → HaveCome hs s rs → AreReadInAnyOrder cs v rs
  read_in_any_order [] [] same can s v rs has none = ([], refl, subst (λ l. IsPermutation l []) (sym none) (IsPermutation-refl []))
  read_in_any_order [] (h ∷ hs) same can s v rs has have = absurd same
  read_in_any_order (c ∷ cs) [] same can s v rs has have = absurd same
  read_in_any_order (c ∷ cs) (h ∷ hs) same can s v rs has (own, others, one, are, moved) =
      let both = and_parts h.is_in_set (can_be_in_set hs) can in
      let first = (h.comes_in_set both.0).in_turn (h.content s) v own has.0 one in
      let (later, reads, later_moved) = read_in_any_order cs hs same.1 both.1 s v others has.1 are in (
        first.in_turn ++ later,
        (first.in_turn, later, (same.0.0 v).5 first.in_turn first.are, reads, refl),
        subst (λ l. IsPermutation (unmarked rs) l) (sym (unmarked-append first.in_turn later))
            (IsPermutation-trans (unmarked rs) (unmarked own ++ unmarked others) (unmarked first.in_turn ++ unmarked later) moved
            (IsPermutation-append (unmarked own) (unmarked first.in_turn) (unmarked others) (unmarked later) first.moved later_moved)),
      )

  pub slots_of_own : (hs : List (Slot S V)) → AreSlotsOf (components_of hs) hs
  slots_of_own [] = tt
  slots_of_own (h ∷ hs) = (own_component h.component, slots_of_own hs)
