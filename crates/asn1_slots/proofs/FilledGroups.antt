-- The slots of a group of a SET: how a component of it is read, and which are filled.
use Rattle.std.proofs.Common.{◌≡◌, ◌⊎◌, ◌<◌, true, false, List, [], ◌∷◌, Err, Ok, Result, zero, suc, arith, inl, inr, length, refl, subst, ◌∙◌}
use Rattle.std.specs.Prelude.{◌&&◌, Bool, None, OnOk, Option, Some, ℕ, if◌then◌else◌}
use Rattle.std.specs.Option.{option_eq}
use Rattle.std.proofs.lemmas.Bool.{and_parts}
use Rattle.asn1_components.specs.ComponentTypes.{ComponentType}
use Rattle.asn1_laws.proofs.ReadingSets.{same_component}
use Rattle.asn1_laws.specs.Reading.{Reader}
use Rattle.asn1_laws.specs.SetParts.{CanBeginWith}
use Rattle.asn1_laws.specs.declared.decode_error.DecodeError.{DecodeError}
use Rattle.asn1_slots.proofs.ReadInSets.{begins_slots, slots_begin}
use Rattle.asn1_slots.specs.GroupsInSets.{FillsPart, IsPartRead, all_are_filled, held_before, holds_group}
use Rattle.asn1_slots.specs.Slots.{AllAreKept, AreEmpty, AreFilled, AreSlotsOf, HoldBefore, OthersAreKept, ReadsOnceAt, Slot, components_of, first_missing}
use Rattle.asn1_tags.specs.declared.tags.Tag.{Tag}

if_ok : {A : Type 0} (result : Result A DecodeError) (P : Type 0) → P → OnOk result P
if_ok (Ok x) P holds = holds
if_ok (Err e) P holds = tt

module _ {S W : Type 0} where
  pub are_filled : (hs : List (Slot S W)) (s : S) → all_are_filled hs s ≡ true → AreFilled hs s
  are_filled [] s filled = tt
  are_filled (h ∷ hs) s filled = let both = and_parts (h.is_filled (h.content s)) (all_are_filled hs s) filled in (both.0, are_filled hs s both.1)

  -- none is missing where all are filled, and only then
  none_by : (b : Bool) (hs : List (Slot S W)) (s : S) (name : List ℕ) → (first_missing hs s ≡ None → all_are_filled hs s ≡ true) →
      (if b then first_missing hs s else Some name) ≡ None → (b && all_are_filled hs s) ≡ true
  none_by true hs s name later none = later none
  none_by false hs s name later none = cc

  pub none_is_missing : (hs : List (Slot S W)) (s : S) → first_missing hs s ≡ None → all_are_filled hs s ≡ true
  none_is_missing [] s none = refl
  none_is_missing (h ∷ hs) s none = none_by (h.is_filled (h.content s)) hs s h.component.name (none_is_missing hs s) none

  some_by : (b : Bool) (hs : List (Slot S W)) (s : S) (name found : List ℕ) → (first_missing hs s ≡ Some found → all_are_filled hs s ≡ false) →
      (if b then first_missing hs s else Some name) ≡ Some found → (b && all_are_filled hs s) ≡ false
  some_by true hs s name found later some = later some
  some_by false hs s name found later some = refl

  pub one_is_missing : (hs : List (Slot S W)) (s : S) (found : List ℕ) → first_missing hs s ≡ Some found → all_are_filled hs s ≡ false
  one_is_missing [] s found some = cc
  one_is_missing (h ∷ hs) s found some = some_by (h.is_filled (h.content s)) hs s h.component.name found (one_is_missing hs s found) some

  -- an index of a tag is one of the slots
  within : (hs : List (Slot S W)) (index : ℕ) (t : Tag) → CanBeginWith (components_of hs) index t → index < length hs
  within [] index t begins = absurd begins
  within (h ∷ hs) zero t begins = omega arith
  within (h ∷ hs) (suc index) t begins = let low = within hs index t begins in omega (arith, low)

  pub index_within : (hs : List (Slot S W)) (cs : List (ComponentType W)) → AreSlotsOf cs hs → (index : ℕ) (t : Tag) → CanBeginWith cs index t → index < length hs
  index_within hs cs are index t begins = within hs index t (begins_slots cs hs are index t begins)

  all_are_kept : (hs : List (Slot S W)) (s : S) → AllAreKept hs s s
  all_are_kept [] s = tt
  all_are_kept (h ∷ hs) s = (refl, all_are_kept hs s)

  -- the component at an index is read, which can begin with the tag
  pub fills_part : {D A : Type 0} (R : Reader D) (cs : List (ComponentType W)) (hs : List (Slot S W)) → AreSlotsOf cs hs → (t : Tag) (index : ℕ) (old new : D) (before after : Option S) (starts ends : S)
      (result : Result A DecodeError) → CanBeginWith cs index t → (before ≡ Some starts) ⊎ ((before ≡ None) × AreEmpty hs starts) →
      ReadsOnceAt R hs index t old new starts ends result → OthersAreKept hs index starts ends → OnOk result (after ≡ Some ends) → FillsPart R hs t old new before after result
  fills_part R cs hs are t index old new before after starts ends result can first reads kept filled = record {
    starts = starts;
    ends = ends;
    first = first;
    reads = λ other apart begins. subst (λ i. ReadsOnceAt R hs i t old new starts ends result) (same_component (components_of hs) index other t apart (begins_slots cs hs are index t can) begins) reads;
    kept = λ other apart begins. subst (λ i. OthersAreKept hs i starts ends) (same_component (components_of hs) index other t apart (begins_slots cs hs are index t can) begins) kept;
    filled = filled;
    exactly = if_ok result (IsPartRead R hs t old new starts ends result) (inr (index, within hs index t (begins_slots cs hs are index t can), reads, kept));
  }

  -- none can begin with the tag
  pub fills_no_part : {D A : Type 0} (R : Reader D) (cs : List (ComponentType W)) (hs : List (Slot S W)) → AreSlotsOf cs hs → (t : Tag) (old new : D) (before after : Option S) (starts : S)
      (result : Result A DecodeError) → ((k : ℕ) → CanBeginWith cs k t → ⊥) → (before ≡ Some starts) ⊎ ((before ≡ None) × AreEmpty hs starts) →
      OnOk result (after ≡ Some starts) → new ≡ old → FillsPart R hs t old new before after result
  fills_no_part R cs hs are t old new before after starts result cannot first filled same = record {
    starts = starts;
    ends = starts;
    first = first;
    reads = λ other apart begins. absurd (cannot other (slots_begin cs hs are other t begins));
    kept = λ other apart begins. absurd (cannot other (slots_begin cs hs are other t begins));
    filled = filled;
    exactly = if_ok result (IsPartRead R hs t old new starts starts result) (inl (same, all_are_kept hs starts));
  }

  -- a value that is equal to each that the slots hold
  pub equal_to_held : (eq : W → W → Bool) (hs : List (Slot S W)) (s : S) (made : W) → ((w : W) → HoldBefore hs (length hs) s w → eq made w ≡ true) → (o : Option W) →
      holds_group hs (Some s) o ≡ true → option_eq eq (Some made) o ≡ true
  equal_to_held eq hs s made is None held = cc
  equal_to_held eq hs s made is (Some w) held = is w (held_before hs s w held)
