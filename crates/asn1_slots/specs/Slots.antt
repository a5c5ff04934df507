-- The components of a SEQUENCE or a group, each read into a slot of its own.
use Rattle.std.specs.Prelude.{◌≡◌, ◌&&◌, ◌+◌, ◌++◌, ℕ, zero, suc, ⊤, Bool, true, false, List, [], ◌∷◌, drop, length, take, Option, None, Some, IfSome, IsPermutation, IsSomeAnd, Result, Ok, MatchResult, Vec, is_some, if◌then◌else◌, refl}
use Rattle.std.specs.Cmp.Lexicographic.{pointwise}
use Rattle.std.specs.Option.{option_eq}
use Rattle.std.specs.Result.{IsErrAnd}
use Rattle.asn1_components.proofs.DistinctSets.{default_distinct, groups_distinct, optional_distinct, required_distinct}
use Rattle.asn1_components.proofs.WrittenAlike.{default_alike, groups_alike, optional_alike, required_alike}
use Rattle.asn1_components.specs.ComponentLists.{EachIsWellTagged, IsReadAsGroup}
use Rattle.asn1_components.specs.Components.{Components, all_components, component_records, extensible_sequence, extensible_set, group, rows, sequence, set}
use Rattle.asn1_components.specs.ComponentTypes.{ComponentType, default_in, optional_in, required}
use Rattle.asn1_components.specs.Following.{BeginsApart, When}
use Rattle.asn1_components.specs.DistinctSets.{IsDistinct}
use Rattle.asn1_components.specs.WrittenAlike.{IsAlike}
use Rattle.asn1_laws.specs.DecodeErrors.{missing_field, reason}
use Rattle.asn1_laws.specs.Reading.{Outside, Reader, ReadsBack}
use Rattle.asn1_laws.specs.ReadingExactly.{WasRead}
use Rattle.asn1_laws.specs.ReadingTypes.{ReadsSetLeft}
use Rattle.asn1_laws.proofs.ReadingSteps.{in_other_words}
use Rattle.asn1_laws.specs.declared.decode_error.DecodeError.{DecodeError}
use Rattle.asn1_laws.specs.declared.decode_error.DecodeError.TheVariants.{Memory}
use Rattle.asn1_fields.specs.FieldViews.{may_be_absent}
use Rattle.asn1_model.specs.Composites.{default_records}
use Rattle.asn1_model.specs.Readings.{IsReadAsDefault, IsReadAsOption}
use Rattle.asn1_model.specs.Records.{Record, Side, in_additions, in_root, unmarked}
use Rattle.std.proofs.Common.{inl, inr, subst}
use Rattle.asn1_model.specs.TaggedTypes.{TaggedType}
use Rattle.asn1_model.specs.DistinctSets.{AreDistinct, SetsAreDistinctInside}
use Rattle.asn1_model.specs.WrittenAlike.{AreAlikeInside, HaveSameRecords}
use Rattle.asn1_slots.specs.ComingInSets.{CanBePutInTurn, ComesAs, ComesInSet, HasComeAs, comes_once, default_in_turn, once_is_read, optional_in_turn, required_in_turn, written_default_in_turn}
use Rattle.asn1_slots.specs.Filling.{Fills, FillsGroup, FillsOnce, FillsOptional}
use Rattle.asn1_slots.specs.InSets.{one_default, one_optional, one_required, slot_of_absent, slot_of_present, unless_default, written_default, written_optional, written_required}
use Rattle.asn1_slots.specs.PartsInSets.{ReadInSet, alone, alone_in_step}
use Rattle.asn1_tags.specs.declared.tags.Tag.{Tag}

-- A call that reads this component: then the answer to the question is yes.
abbrev pub ReadsInto : {D V A : Type 0} → Reader D → ComponentType V → (V → Bool) → D → D →
    Result A DecodeError → Type 0
ReadsInto {V = V} R c holds old new result =
    (v : V) (rest : List Record) (outer : Outside) → c.IsWellTagged → c.IsOfType v →
    c.IsValid R.accepts v → When (may_be_absent c.presence) (BeginsApart c.tree rest) →
    ReadsBack R old new (c.records v) rest outer (λ _. holds v ≡ true) result

-- A component of the values V, and its slot among the slots S.
pub record Slot (S V : Type 0) : Type 1 where
  pub component : ComponentType V
  -- it can be read in a SET
  pub is_in_set : Bool
  -- what the slot can hold, and the slot itself
  pub Content : Type 0
  pub content : S → Option Content
  -- the slot is full, or the component may be absent
  pub is_filled : Option Content → Bool
  -- the slot has what the value has, or what is equal
  pub holds : Option Content → V → Bool
  -- which no other slot has
  pub if_held : (slot : Option Content) (v : V) → holds slot v ≡ true → is_filled slot ≡ true
  -- what a call promises that reads the component into the slot
  pub Reads : {D A : Type 0} → Reader D → D → D → Option Content → Result A DecodeError → Type 0
  -- which is enough
  pub reads : {D A : Type 0} (R : Reader D) (old new : D) (slot : Option Content)
      (result : Result A DecodeError) → Reads R old new slot result →
      ReadsInto R component (holds slot) old new result
  -- after a success the slot is filled, whatever was read
  pub fills : {D A : Type 0} (R : Reader D) (old new : D) (slot : Option Content) (x : A) →
      Reads R old new slot (Ok x) → is_filled slot ≡ true
  -- what is read as what the slot has: after a success nothing else was read
  pub IsReadAs : Option Content → List Record → Type 0
  pub reads_exactly : {D A : Type 0} (R : Reader D) (old new : D) (slot : Option Content) (x : A) →
      Reads R old new slot (Ok x) → WasRead R old new (IsReadAs slot)
  -- the value has what the slot has, itself and not what is equal; so what is read as the slot is read as the component
  pub IsOf : Option Content → V → Type 0
  pub read_as_component : (slot : Option Content) (v : V) (rs : List Record) → IsOf slot v → IsReadAs slot rs →
      component.IsReadAs v rs
  -- in a SET: the parts that come one by one, and what a call promises that reads the one of a tag,
  -- by the slot before and after
  pub parts : List (ComponentType V)
  pub ReadsOnce : {D A : Type 0} → Reader D → Tag → D → D → Option Content → Option Content →
      Result A DecodeError → Type 0
  -- the slot is in step with the parts, by how often each has come
  pub InStep : (ℕ → ℕ) → Option Content → V → Type 0
  -- which is enough
  pub in_set : is_in_set ≡ true → ReadInSet component parts holds
      (λ D A R t old new before after result. ReadsOnce R t old new before after result) InStep
  -- what has come for the slot in a SET, and what a call adds to it, marks apart; which is enough
  pub HasCome : Option Content → List Record → Type 0
  pub Comes : Option Content → Option Content → List Record → Type 0
  pub comes_in_set : is_in_set ≡ true → ComesInSet component IsOf None HasCome Comes
      (λ D A R t old new before after result. ReadsOnce R t old new before after result)
  -- whether two values have equal components
  pub equal : V → V → Bool
  -- what is asked of the component's type so that these are written alike, which is enough
  pub CanBeAlike : Type 0
  pub alike : CanBeAlike → IsAlike component equal
  -- the same of the SETs inside it, whose components are to have distinct tags
  pub CanBeDistinct : Type 0
  pub distinct : CanBeDistinct → IsDistinct component

-- The slot of a component with a default: it has what the value has, or it is empty, and the value
-- passes the test for the default.
abbrev pub holds_or_passes : {W : Type 0} → (W → W → Bool) → (W → Bool) → Option W → W → Bool
holds_or_passes eq test None w = test w
holds_or_passes eq test (Some x) w = eq x w

-- The value is what the slot of a component with a default has, or passes the test where the slot is empty.
abbrev pub IsOfDefault : {W : Type 0} → (W → Bool) → Option W → W → Type 0
IsOfDefault test None w = test w ≡ true
IsOfDefault test (Some x) w = x ≡ w

-- what is read as a slot that has to be full
abbrev pub IsReadAsFull : {W : Type 0} → TaggedType W → Option W → List Record → Type 0
IsReadAsFull type slot rs = IsSomeAnd slot (λ w. type.IsReadAs w rs)

pub full_was_read : {D W : Type 0} (R : Reader D) (old new : D) (type : TaggedType W) (slot : Option W) →
    IsSomeAnd slot (λ w. WasRead R old new (type.IsReadAs w)) → WasRead R old new (IsReadAsFull type slot)
full_was_read R old new type None was = absurd was
full_was_read R old new type (Some w) was = was

pub full_is_component : {W : Type 0} (type : TaggedType W) (slot : Option W) (w : W) (rs : List Record) → slot ≡ Some w → IsReadAsFull type slot rs → type.IsReadAs w rs
full_is_component type slot w rs is read = subst (λ s. IsReadAsFull type s rs) is read

pub default_is_component : {W : Type 0} (side : Side) (type : TaggedType W) (test : W → Bool) (slot : Option W) (w : W) (rs : List Record) → IsOfDefault test slot w →
    IsReadAsOption type.IsReadAs side type.tag slot rs → IsReadAsDefault type.IsReadAs side type.tag (test w) w rs
default_is_component side type test None w rs passes read = inl (passes, read)
default_is_component side type test (Some x) w rs is read = inr (subst (λ y. IsReadAsOption type.IsReadAs side type.tag (Some y) rs) is read)

pub default_slot_in_turn : {W : Type 0} (side : Side) (type : TaggedType W) (test : W → Bool) (slot : Option W) (w : W) (rs : List Record) → IsOfDefault test slot w →
    HasComeAs type slot rs → CanBePutInTurn (IsReadAsDefault type.IsReadAs side type.tag (test w) w) rs
default_slot_in_turn side type test None w rs passes none = default_in_turn type side (test w) w rs passes none
default_slot_in_turn side type test (Some x) w rs is has = written_default_in_turn type side (test w) w rs (subst (λ y. type.IsReadAs y rs) is has)

-- the test of one value
abbrev pub holds_or_default : {W : Type 0} → (W → W → Bool) → W → Option W → W → Bool
holds_or_default eq default_value slot w = holds_or_passes eq (λ v. eq v default_value) slot w

-- the test for the empty list, by the equality of the elements
abbrev pub is_empty_list : {T A : Type 0} → (T → T → Bool) → Vec T A → Bool
is_empty_list eq list = pointwise eq list.items []

-- Equal values pass the test for a default together.
abbrev pub PassTogether : {W : Type 0} → (W → W → Bool) → (W → Bool) → Type 0
PassTogether {W = W} eq test = (x y : W) → eq x y ≡ true → test x ≡ test y

holds_default : {W : Type 0} (eq : W → W → Bool) (test : W → Bool) (w : W) (slot : Option W) (is_default : Bool) →
    test w ≡ is_default → option_eq eq slot (unless_default is_default w) ≡ true →
    holds_or_passes eq test slot w ≡ true
holds_default eq test w None true is same = is
holds_default eq test w None false is same = cc
holds_default eq test w (Some x) true is same = cc
holds_default eq test w (Some x) false is same = same

-- the slot of a component with a default is filled as that of one that may be absent
pub reads_default : {D A W : Type 0} (R : Reader D) (side : Side) (type : TaggedType W) (eq : W → W → Bool)
    (test : W → Bool) (old new : D) (slot : Option W) (result : Result A DecodeError) →
    FillsOptional R side type eq old new slot result → (w : W) (rest : List Record)
    (outer : Outside) (is_default : Bool) →
    test w ≡ is_default → type.IsWellTagged → (is_default ≡ false → type.IsOfType w) →
    (is_default ≡ false → type.IsValid R.accepts w) → BeginsApart type.tree rest →
    ReadsBack R old new (default_records side is_default type.tag (type.records w)) rest outer
    (λ _. holds_or_passes eq test slot w ≡ true) result
reads_default R side type eq test old new slot result fills w rest outer true is can of_type valid apart =
    in_other_words R old new _ _ _ result (λ _ same. holds_default eq test w slot true is same)
    (fills.reads None rest outer can tt tt apart)
reads_default R side type eq test old new slot result fills w rest outer false is can of_type valid apart =
    in_other_words R old new _ _ _ result (λ _ same. holds_default eq test w slot false is same)
    (fills.reads (Some w) rest outer can (of_type refl) (valid refl) apart)

-- what is asked of a value that is not the default
pub if_not_default : {W : Type 0} (P : W → Type 0) (is_default : Bool) (w : W) → (is_default ≡ false → P w) →
    IfSome (unless_default is_default w) P
if_not_default P true w holds = tt
if_not_default P false w holds = holds refl

-- and of its slot
pub default_is_read : {W : Type 0} (eq : W → W → Bool) (test : W → Bool) (w : W) (slot : Option W) →
    option_eq eq slot (unless_default (test w) w) ≡ true → holds_or_passes eq test slot w ≡ true
default_is_read eq test w slot same = holds_default eq test w slot (test w) refl same

-- a slot that has what a value has is full
pub full_if_held : {W : Type 0} (eq : W → W → Bool) (slot : Option W) (w : W) → option_eq eq slot (Some w) ≡ true →
    is_some slot ≡ true
full_if_held eq None w held = cc
full_if_held eq (Some x) w held = refl

-- which no group is
pub no_group : {P : Type 1} → false ≡ true → P
no_group wrong = cc

module _ {S V W : Type 0} (name : List ℕ) where
  -- the slot of a component that is always there
  abbrev pub required_slot : (V → W) → (S → Option W) → TaggedType W → (W → W → Bool) → Slot S V
  required_slot get slot type eq = record {
    component = required name get type;
    is_in_set = true;
    Content = W;
    content = slot;
    is_filled = is_some;
    holds = λ s v. option_eq eq s (Some (get v));
    if_held = λ s v held. full_if_held eq s (get v) held;
    Reads = λ R old new s result. Fills R type eq old new s result;
    reads = λ R old new s result fills v rest outer can of_type valid apart.
        fills.reads (get v) rest outer can of_type valid;
    fills = λ R old new s x fills. fills.is_full;
    IsReadAs = IsReadAsFull type;
    reads_exactly = λ R old new s x fills. full_was_read R old new type s fills.exactly;
    IsOf = λ s v. s ≡ Some (get v);
    read_as_component = λ s v rs is read. full_is_component type s (get v) rs is read;
    parts = required name get type ∷ [];
    ReadsOnce = λ R t old new before after result.
        FillsOnce R name type eq old new before after result;
    InStep = alone_in_step (λ s v. option_eq eq s (Some (get v)));
    in_set = λ _. alone (required name get type) (λ s v. option_eq eq s (Some (get v))) (λ D A R old new before after result. FillsOnce R name type eq old new before after result) refl
        (λ can v. one_required type can (get v))
        (λ D A R old new after result fills v rest outer can of_type valid some.
        slot_of_present type R name eq old new None after result fills refl (Some (get v))
        _ rest outer can of_type valid (written_required type can (get v)) some)
        (λ v can none. slot_of_absent type can eq None (Some (get v)) _ (written_required type can (get v)) refl none);
    HasCome = HasComeAs type;
    Comes = ComesAs type;
    comes_in_set = λ _. record {
      nothing = refl;
      comes = λ D A R t old new before after x fills. once_is_read type R name eq old new before after x fills;
      came = comes_once type;
      in_turn = λ s v rs is has. required_in_turn type s (get v) rs is has;
    };
    equal = λ v w. eq (get v) (get w);
    CanBeAlike = AreAlikeInside type eq;
    alike = λ each. required_alike name get type each;
    CanBeDistinct = SetsAreDistinctInside type;
    distinct = λ own. required_distinct name get type own;
  }

  -- of one that may be absent, on this side
  abbrev optional_slot_in : Side → (V → Option W) → (S → Option W) → TaggedType W → (W → W → Bool) → Slot S V
  optional_slot_in side get slot type eq = record {
    component = optional_in side name get type;
    is_in_set = true;
    Content = W;
    content = slot;
    is_filled = λ _. true;
    holds = λ s v. option_eq eq s (get v);
    if_held = λ s v held. refl;
    Reads = λ R old new s result. FillsOptional R side type eq old new s result;
    reads = λ R old new s result fills v rest outer can of_type valid apart.
        fills.reads (get v) rest outer can of_type valid apart;
    fills = λ R old new s x fills. refl;
    IsReadAs = IsReadAsOption type.IsReadAs side type.tag;
    reads_exactly = λ R old new s x fills. fills.exactly;
    IsOf = λ s v. s ≡ get v;
    read_as_component = λ s v rs is read. subst (λ o. IsReadAsOption type.IsReadAs side type.tag o rs) is read;
    parts = optional_in side name get type ∷ [];
    ReadsOnce = λ R t old new before after result.
        FillsOnce R name type eq old new before after result;
    InStep = alone_in_step (λ s v. option_eq eq s (get v));
    in_set = λ _. alone (optional_in side name get type) (λ s v. option_eq eq s (get v)) (λ D A R old new before after result. FillsOnce R name type eq old new before after result) refl
        (λ can v. one_optional type can side (get v))
        (λ D A R old new after result fills v rest outer can of_type valid some.
        slot_of_present type R name eq old new None after result fills refl (get v)
        _ rest outer can of_type valid (written_optional type can side (get v)) some)
        (λ v can none. slot_of_absent type can eq None (get v) _ (written_optional type can side (get v)) refl none);
    HasCome = HasComeAs type;
    Comes = ComesAs type;
    comes_in_set = λ _. record {
      nothing = refl;
      comes = λ D A R t old new before after x fills. once_is_read type R name eq old new before after x fills;
      came = comes_once type;
      in_turn = λ s v rs is has. optional_in_turn type side s (get v) rs is has;
    };
    equal = λ v w. option_eq eq (get v) (get w);
    CanBeAlike = AreAlikeInside type eq;
    alike = λ each. optional_alike side name get type each;
    CanBeDistinct = SetsAreDistinctInside type;
    distinct = λ own. optional_distinct side name get type own;
  }

  -- of the root, and of the additions
  abbrev pub optional_slot : (V → Option W) → (S → Option W) → TaggedType W → (W → W → Bool) → Slot S V
  optional_slot = optional_slot_in in_root

  abbrev pub addition_slot : (V → Option W) → (S → Option W) → TaggedType W → (W → W → Bool) → Slot S V
  addition_slot = optional_slot_in in_additions

  -- of one with a default, on this side: where the slot is empty, the value passes the test for it
  abbrev default_slot_in : Side → (V → W) → (W → Bool) → (S → Option W) → TaggedType W → (W → W → Bool) → Slot S V
  default_slot_in side get test slot type eq = record {
    component = default_in side name get (λ v. test (get v)) type;
    is_in_set = true;
    Content = W;
    content = slot;
    is_filled = λ _. true;
    holds = λ s v. holds_or_passes eq test s (get v);
    if_held = λ s v held. refl;
    Reads = λ R old new s result. FillsOptional R side type eq old new s result;
    reads = λ R old new s result fills v rest outer can of_type valid apart.
        reads_default R side type eq test old new s result fills (get v) rest outer (test (get v))
        refl can of_type valid apart;
    fills = λ R old new s x fills. refl;
    IsReadAs = IsReadAsOption type.IsReadAs side type.tag;
    reads_exactly = λ R old new s x fills. fills.exactly;
    IsOf = λ s v. IsOfDefault test s (get v);
    read_as_component = λ s v rs is read. default_is_component side type test s (get v) rs is read;
    parts = default_in side name get (λ v. test (get v)) type ∷ [];
    ReadsOnce = λ R t old new before after result.
        FillsOnce R name type eq old new before after result;
    InStep = alone_in_step (λ s v. holds_or_passes eq test s (get v));
    in_set = λ _. alone (default_in side name get (λ v. test (get v)) type) (λ s v. holds_or_passes eq test s (get v)) (λ D A R old new before after result. FillsOnce R name type eq old new before after result) refl
        (λ can v. one_default type can side (test (get v)) (get v))
        (λ D A R old new after result fills v rest outer can of_type valid some.
        in_other_words R old new _ _ _ result (λ _ same. default_is_read eq test (get v) after same)
        (slot_of_present type R name eq old new None after result fills refl
        (unless_default (test (get v)) (get v)) _ rest outer can (if_not_default _ (test (get v)) (get v) of_type)
        (if_not_default _ (test (get v)) (get v) valid)
        (written_default type can side (test (get v)) (get v)) some))
        (λ v can none. default_is_read eq test (get v) None
        (slot_of_absent type can eq None (unless_default (test (get v)) (get v)) _
        (written_default type can side (test (get v)) (get v)) refl none));
    HasCome = HasComeAs type;
    Comes = ComesAs type;
    comes_in_set = λ _. record {
      nothing = refl;
      comes = λ D A R t old new before after x fills. once_is_read type R name eq old new before after x fills;
      came = comes_once type;
      in_turn = λ s v rs is has. default_slot_in_turn side type test s (get v) rs is has;
    };
    equal = λ v w. eq (get v) (get w);
    CanBeAlike = PassTogether eq test × AreAlikeInside type eq;
    alike = λ each. default_alike side name get test type each.0 each.1;
    CanBeDistinct = SetsAreDistinctInside type;
    distinct = λ own. default_distinct side name get (λ v. test (get v)) type own;
  }

  -- of one default value, in the root and among the additions
  abbrev pub default_slot : (V → W) → W → (S → Option W) → TaggedType W → (W → W → Bool) → Slot S V
  default_slot get default_value slot type eq = default_slot_in in_root get (λ w. eq w default_value) slot type eq

  abbrev pub addition_with_default_slot : (V → W) → W → (S → Option W) → TaggedType W → (W → W → Bool) → Slot S V
  addition_with_default_slot get default_value slot type eq =
      default_slot_in in_additions get (λ w. eq w default_value) slot type eq

  -- of a group of additions of a SEQUENCE; `group_in_set` is that of a SET
  abbrev pub group_slot : (V → Option W) → (S → Option W) → Components W → (W → W → Bool) → Slot S V
  group_slot get slot components eq = record {
    component = group name get components;
    is_in_set = false;
    Content = W;
    content = slot;
    is_filled = λ _. true;
    holds = λ s v. option_eq eq s (get v);
    if_held = λ s v held. refl;
    Reads = λ R old new s result. FillsGroup R components eq old new s result;
    reads = λ R old new s result fills v rest outer can of_type valid apart.
        fills.reads (get v) rest outer can.0 of_type valid apart;
    fills = λ R old new s x fills. refl;
    IsReadAs = IsReadAsGroup (rows components) (all_components components);
    reads_exactly = λ R old new s x fills. fills.exactly;
    IsOf = λ s v. s ≡ get v;
    read_as_component = λ s v rs is read. subst (λ o. IsReadAsGroup (rows components) (all_components components) o rs) is read;
    parts = [];
    ReadsOnce = λ R t old new before after result. ⊤;
    InStep = λ times slot v. ⊤;
    in_set = λ wrong. no_group wrong;
    HasCome = λ s rs. ⊤;
    Comes = λ before after own. ⊤;
    comes_in_set = λ wrong. no_group wrong;
    equal = λ v w. option_eq eq (get v) (get w);
    CanBeAlike = EachIsWellTagged (all_components components) → HaveSameRecords eq (component_records components);
    alike = λ each can v w same. groups_alike (rows components) (component_records components) (each can.0.0) (get v) (get w) same;
    CanBeDistinct = EachIsWellTagged (all_components components) → (w : W) → AreDistinct (component_records components w);
    distinct = λ own can v. groups_distinct (rows components) (component_records components) (own can.0.0) (get v);
  }

module _ {S V T A : Type 0} (name : List ℕ) where
  -- The slot of a list whose default is the empty list (DEFAULT {}), in the root and among the
  -- additions, by the equality of the elements and of the lists.
  abbrev pub empty_list_slot : (V → Vec T A) → (S → Option (Vec T A)) → TaggedType (Vec T A) → (T → T → Bool) →
      (Vec T A → Vec T A → Bool) → Slot S V
  empty_list_slot get slot type element_eq eq = default_slot_in name in_root get (is_empty_list element_eq) slot type eq

  abbrev pub addition_with_empty_list_slot : (V → Vec T A) → (S → Option (Vec T A)) → TaggedType (Vec T A) →
      (T → T → Bool) → (Vec T A → Vec T A → Bool) → Slot S V
  addition_with_empty_list_slot get slot type element_eq eq =
      default_slot_in name in_additions get (is_empty_list element_eq) slot type eq

-- the name, if this is false
abbrev pub name_unless : Bool → List ℕ → Option (List ℕ)
name_unless true name = None
name_unless false name = Some name

-- the name of a component that is always there, if its slot is empty
abbrev pub missing_in : {W : Type 0} → Option W → List ℕ → Option (List ℕ)
missing_in slot name = name_unless (is_some slot) name

module _ {S V : Type 0} where
  -- the components of the slots
  abbrev pub components_of : List (Slot S V) → List (ComponentType V)
  components_of [] = []
  components_of (h ∷ hs) = h.component ∷ components_of hs

  -- the comparisons of the slots, and what is asked of the types of all
  abbrev pub comparisons : List (Slot S V) → List (V → V → Bool)
  comparisons [] = []
  comparisons (h ∷ hs) = h.equal ∷ comparisons hs

  abbrev pub EachCanBeAlike : List (Slot S V) → Type 0
  EachCanBeAlike [] = ⊤
  EachCanBeAlike (h ∷ hs) = h.CanBeAlike × EachCanBeAlike hs

  abbrev pub EachCanBeDistinct : List (Slot S V) → Type 0
  EachCanBeDistinct [] = ⊤
  EachCanBeDistinct (h ∷ hs) = h.CanBeDistinct × EachCanBeDistinct hs

  -- a SEQUENCE of these components, without an extension marker
  abbrev pub sequence_of_slots : List (Slot S V) → Components V
  sequence_of_slots slots = sequence (components_of slots)

  -- one whose root has this many of them, and then an extension marker
  abbrev pub extensible_sequence_after : ℕ → List (Slot S V) → Components V
  extensible_sequence_after k slots =
      extensible_sequence (components_of (take k slots)) (components_of (drop k slots))

  -- a SET of them, without an extension marker, and with one
  abbrev pub set_of_slots : List (Slot S V) → Components V
  set_of_slots slots = set (components_of slots)

  abbrev pub extensible_set_after : ℕ → List (Slot S V) → Components V
  extensible_set_after k slots =
      extensible_set (components_of (take k slots)) (components_of (drop k slots))

  -- each slot before this index has what the value has
  abbrev pub HoldBefore : List (Slot S V) → ℕ → S → V → Type 0
  HoldBefore [] index s v = ⊤
  HoldBefore (h ∷ hs) zero s v = ⊤
  HoldBefore (h ∷ hs) (suc index) s v =
      (h.holds (h.content s) v ≡ true) × HoldBefore hs index s v

  -- all slots are empty
  abbrev pub AreEmpty : List (Slot S V) → S → Type 0
  AreEmpty [] s = ⊤
  AreEmpty (h ∷ hs) s = (h.content s ≡ None) × AreEmpty hs s

  -- each slot of a component that is always there is full
  abbrev pub AreFilled : List (Slot S V) → S → Type 0
  AreFilled [] s = ⊤
  AreFilled (h ∷ hs) s = (h.is_filled (h.content s) ≡ true) × AreFilled hs s

  -- each of the components can be read in a SET
  abbrev pub can_be_in_set : List (Slot S V) → Bool
  can_be_in_set [] = true
  can_be_in_set (h ∷ hs) = h.is_in_set && can_be_in_set hs

  -- the parts of all
  abbrev pub parts_of_slots : List (Slot S V) → List (ComponentType V)
  parts_of_slots [] = []
  parts_of_slots (h ∷ hs) = h.parts ++ parts_of_slots hs

  -- each slot is in step with its parts, by how often each of all has come
  abbrev pub AreInStep : List (Slot S V) → (ℕ → ℕ) → S → V → Type 0
  AreInStep [] times s v = ⊤
  AreInStep (h ∷ hs) times s v =
      h.InStep times (h.content s) v × AreInStep hs (λ j. times (length h.parts + j)) s v

  -- the slot is as it was
  abbrev pub IsKept : Slot S V → S → S → Type 0
  IsKept h before after = h.content after ≡ h.content before

  abbrev pub AllAreKept : List (Slot S V) → S → S → Type 0
  AllAreKept [] before after = ⊤
  AllAreKept (h ∷ hs) before after = IsKept h before after × AllAreKept hs before after

  -- each slot before this index is kept
  abbrev pub AreKeptBefore : List (Slot S V) → ℕ → S → S → Type 0
  AreKeptBefore [] index before after = ⊤
  AreKeptBefore (h ∷ hs) zero before after = ⊤
  AreKeptBefore (h ∷ hs) (suc index) before after =
      IsKept h before after × AreKeptBefore hs index before after

  -- each slot but that of this index is kept
  abbrev pub OthersAreKept : List (Slot S V) → ℕ → S → S → Type 0
  OthersAreKept [] index before after = ⊤
  OthersAreKept (h ∷ hs) zero before after = AllAreKept hs before after
  OthersAreKept (h ∷ hs) (suc index) before after =
      IsKept h before after × OthersAreKept hs index before after

  -- the call reads the component of this index in a SET, or the part of it that has the tag, into its
  -- slot
  abbrev pub ReadsOnceAt : {D A : Type 0} → Reader D → List (Slot S V) → ℕ → Tag → D → D → S → S →
      Result A DecodeError → Type 0
  ReadsOnceAt R [] index t old new before after result = ⊤
  ReadsOnceAt R (h ∷ hs) zero t old new before after result =
      h.ReadsOnce R t old new (h.content before) (h.content after) result
  ReadsOnceAt R (h ∷ hs) (suc index) t old new before after result =
      ReadsOnceAt R hs index t old new before after result

  -- the call reads the component at this index into its slot
  abbrev pub ReadsAt : {D A : Type 0} → Reader D → List (Slot S V) → ℕ → D → D → S →
      Result A DecodeError → Type 0
  ReadsAt R [] index old new s result = ⊤
  ReadsAt R (h ∷ hs) zero old new s result = h.Reads R old new (h.content s) result
  ReadsAt R (h ∷ hs) (suc index) old new s result = ReadsAt R hs index old new s result

  -- what is read as the slots before this index, one after another
  abbrev pub AreReadBefore : List (Slot S V) → ℕ → S → List Record → Type 0
  AreReadBefore [] index s rs = rs ≡ []
  AreReadBefore (h ∷ hs) zero s rs = rs ≡ []
  AreReadBefore (h ∷ hs) (suc index) s rs =
      (first : List Record) × (later : List Record) × h.IsReadAs (h.content s) first × AreReadBefore hs index s later × (rs ≡ first ++ later)

  -- what has come for all slots in a SET, in any order, marks apart
  abbrev pub HaveCome : List (Slot S V) → S → List Record → Type 0
  HaveCome [] s rs = unmarked rs ≡ []
  HaveCome (h ∷ hs) s rs =
      (own : List Record) × (others : List Record) × h.HasCome (h.content s) own × HaveCome hs s others ×
      IsPermutation (unmarked rs) (unmarked own ++ unmarked others)

  -- these records are added to what has come for the slot at this index
  abbrev pub ComesAt : List (Slot S V) → ℕ → S → S → List Record → Type 0
  ComesAt [] index before after own = ⊥
  ComesAt (h ∷ hs) zero before after own = h.Comes (h.content before) (h.content after) own
  ComesAt (h ∷ hs) (suc index) before after own = ComesAt hs index before after own

  -- the value has what each slot has
  abbrev pub AreOf : List (Slot S V) → S → V → Type 0
  AreOf [] s v = ⊤
  AreOf (h ∷ hs) s v = h.IsOf (h.content s) v × AreOf hs s v

  -- the name of the first component that is always there and whose slot is empty
  abbrev pub first_missing : List (Slot S V) → S → Option (List ℕ)
  first_missing [] s = None
  first_missing (h ∷ hs) s =
      if h.is_filled (h.content s) then first_missing hs s else Some h.component.name

  -- the name of the component at this index, if it is always there and its slot is empty
  abbrev pub missing_at : List (Slot S V) → ℕ → S → Option (List ℕ)
  missing_at [] index s = None
  missing_at (h ∷ hs) zero s = name_unless (h.is_filled (h.content s)) h.component.name
  missing_at (h ∷ hs) (suc index) s = missing_at hs index s

  -- The error names the first missing component.
  abbrev pub RefusesMissing : {A : Type 0} → List (Slot S V) → S → Result A DecodeError → Type 0
  RefusesMissing slots s result =
      IfSome (first_missing slots s) (λ name. IsErrAnd result (λ e. reason e ≡ missing_field name))

  -- of the slots of a value an equal one is made, unless memory runs out
  abbrev pub MakesValueOfSlots : List (Slot S V) → (V → V → Bool) → S → Result V DecodeError → Type 0
  MakesValueOfSlots slots eq s result =
      (v : V) → HoldBefore slots (length slots) s v →
      MatchResult result (λ w. eq w v ≡ true) (λ e. e ≡ Memory)

-- Two components are the same to a reader.
abbrev pub SameComponent : {V : Type 0} → ComponentType V → ComponentType V → Type 0
SameComponent {V = V} c d = ((v : V) →
    (c.IsWellTagged → d.IsWellTagged) × (c.IsOfType v → d.IsOfType v)
    × ((accepts : List ℕ → Bool) → c.IsValid accepts v → d.IsValid accepts v)
    × ((rest : List Record) → When (may_be_absent c.presence) (BeginsApart c.tree rest) →
    When (may_be_absent d.presence) (BeginsApart d.tree rest))
    × (c.records v ≡ d.records v) × ((rs : List Record) → d.IsReadAs v rs → c.IsReadAs v rs)) × (c.tree ≡ d.tree) × (c.parts ≡ d.parts)

-- The slots are those of these components.
abbrev pub AreSlotsOf : {S V : Type 0} → List (ComponentType V) → List (Slot S V) → Type 0
AreSlotsOf [] [] = ⊤
AreSlotsOf [] (h ∷ hs) = ⊥
AreSlotsOf (c ∷ cs) [] = ⊥
AreSlotsOf (c ∷ cs) (h ∷ hs) = SameComponent c h.component × AreSlotsOf cs hs

-- A type's components are those of its layout: what are slots of the layout's own components are
-- slots of the type's.
abbrev pub IsLayoutOf : {S V : Type 0} → Components V → List (Slot S V) → Type 0
IsLayoutOf components layout =
    AreSlotsOf (components_of layout) layout → AreSlotsOf (all_components components) layout

-- A call that reads the components that are left in a SET, of which there are at most this many
-- records: in any order, and into slots.
abbrev pub ReadsSlotsLeft : {D S V : Type 0} → Reader D → ℕ → Components V → List (Slot S V) → D → D →
    Result S DecodeError → Type 0
ReadsSlotsLeft R bound components slots old new result =
    ReadsSetLeft R bound components (λ v s. HoldBefore slots (length slots) s v) old new result
