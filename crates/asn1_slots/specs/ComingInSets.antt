-- The records that have come for a slot in a SET (X.680, 27), where components come in any order, and those that are read as the component then.
use Rattle.std.specs.Prelude.{◌≡◌, ℕ, Bool, true, List, [], ◌∷◌, ◌++◌, IsPermutation, IsSome, IsSomeAnd, OnOk, Option, None, Some, Result, Ok, refl}
use Rattle.std.proofs.Common.{append-nil, inl, inr, subst, sym}
use Rattle.std.proofs.lemmas.List.Sorted.{IsPermutation-refl}
use Rattle.asn1_components.specs.ComponentTypes.{ComponentType}
use Rattle.asn1_laws.specs.Reading.{Reader}
use Rattle.asn1_laws.specs.ReadingExactly.{WasRead}
use Rattle.asn1_laws.specs.declared.decode_error.DecodeError.{DecodeError}
use Rattle.asn1_model.specs.Readings.{IsReadAsDefault, IsReadAsOption}
use Rattle.asn1_model.specs.Records.{Record, Side, absent, presence_mark, present, unmarked}
use Rattle.asn1_model.specs.TaggedTypes.{TaggedType}
use Rattle.asn1_slots.specs.Filling.{FillsOnce}
use Rattle.asn1_tags.specs.declared.tags.Tag.{Tag}

-- Records are read as something, put in the order of the definition, with presence marks.
pub record CanBePutInTurn (IsRead : List Record → Type 0) (rs : List Record) : Type 0 where
  pub in_turn : List Record
  pub are : IsRead in_turn
  pub moved : IsPermutation (unmarked rs) (unmarked in_turn)

-- The records that have come for a slot, and those that a call adds to it: what was read is added; of a slot that is a value's the
-- records are read as the component, in turn.
pub record ComesInSet {V C : Type 0} (component : ComponentType V) (IsOf : C → V → Type 0) (empty : C) (HasCome : C → List Record → Type 0) (Comes : C → C → List Record → Type 0)
    (ReadsOnce : (D A : Type 0) → Reader D → Tag → D → D → C → C → Result A DecodeError → Type 0) : Type 1 where
  pub nothing : HasCome empty []
  pub comes : (D A : Type 0) (R : Reader D) (t : Tag) (old new : D) (before after : C) (x : A) →
      ReadsOnce D A R t old new before after (Ok x) → WasRead R old new (Comes before after)
  pub came : (before after : C) (rs own : List Record) → HasCome before rs → Comes before after own → HasCome after (rs ++ own)
  pub in_turn : (slot : C) (v : V) (rs : List Record) → IsOf slot v → HasCome slot rs → CanBePutInTurn (component.IsReadAs v) rs

module _ {W : Type 0} (type : TaggedType W) where
  -- what has come for a component that is one value
  abbrev pub HasComeAs : Option W → List Record → Type 0
  HasComeAs None rs = rs ≡ []
  HasComeAs (Some w) rs = type.IsReadAs w rs

  -- it comes into an empty slot
  abbrev pub ComesAs : Option W → Option W → List Record → Type 0
  ComesAs before after own = (before ≡ None) × IsSomeAnd after (λ w. type.IsReadAs w own)

  came_as : (after : Option W) (rs own : List Record) → rs ≡ [] → IsSomeAnd after (λ w. type.IsReadAs w own) → HasComeAs after (rs ++ own)
  came_as None rs own none is = absurd is
  came_as (Some w) rs own none is = subst (λ l. type.IsReadAs w (l ++ own)) (sym none) is

  pub comes_once : (before after : Option W) (rs own : List Record) → HasComeAs before rs → ComesAs before after own → HasComeAs after (rs ++ own)
  comes_once before after rs own has (empty, is) = came_as after rs own (subst (λ slot. HasComeAs slot rs) empty has) is

  read_alone : {D : Type 0} (R : Reader D) (old new : D) (after : Option W) → IsSomeAnd after (λ w. WasRead R old new (type.IsReadAs w)) →
      WasRead R old new (ComesAs None after)
  read_alone R old new None was = absurd was
  read_alone R old new (Some w) was = record { records = was.records; are = λ rest outer at. (refl, was.are rest outer at); read = was.read }

  pub once_is_read : {D A : Type 0} (R : Reader D) (name : List ℕ) (eq : W → W → Bool) (old new : D) (before after : Option W) (x : A) →
      FillsOnce R name type eq old new before after (Ok x) → WasRead R old new (ComesAs before after)
  once_is_read R name eq old new None after x fills = read_alone R old new after (fills.exactly refl)
  once_is_read R name eq old new (Some w) after x fills = absurd (fills.twice refl)

  pub required_in_turn : (slot : Option W) (w : W) (rs : List Record) → slot ≡ Some w → HasComeAs slot rs → CanBePutInTurn (type.IsReadAs w) rs
  required_in_turn slot w rs is has = record { in_turn = rs; are = subst (λ s. HasComeAs s rs) is has; moved = IsPermutation-refl (unmarked rs) }

  pub optional_in_turn : (side : Side) (slot o : Option W) (rs : List Record) → slot ≡ o → HasComeAs slot rs → CanBePutInTurn (IsReadAsOption type.IsReadAs side type.tag o) rs
  optional_in_turn side slot None rs is has = record {
    in_turn = presence_mark (absent side type.tag) ∷ [];
    are = refl;
    moved = subst (λ l. IsPermutation (unmarked l) []) (sym (subst (λ s. HasComeAs s rs) is has)) (IsPermutation-refl []);
  }
  optional_in_turn side slot (Some w) rs is has = record {
    in_turn = presence_mark (present side type.tag) ∷ rs;
    are = (rs, subst (λ s. HasComeAs s rs) is has, refl);
    moved = IsPermutation-refl (unmarked rs);
  }

  pub default_in_turn : (side : Side) (is_default : Bool) (w : W) (rs : List Record) → is_default ≡ true → rs ≡ [] →
      CanBePutInTurn (IsReadAsDefault type.IsReadAs side type.tag is_default w) rs
  default_in_turn side is_default w rs passes none = record {
    in_turn = presence_mark (absent side type.tag) ∷ [];
    are = inl (passes, refl);
    moved = subst (λ l. IsPermutation (unmarked l) []) (sym none) (IsPermutation-refl []);
  }

  pub written_default_in_turn : (side : Side) (is_default : Bool) (w : W) (rs : List Record) → type.IsReadAs w rs →
      CanBePutInTurn (IsReadAsDefault type.IsReadAs side type.tag is_default w) rs
  written_default_in_turn side is_default w rs is = record {
    in_turn = presence_mark (present side type.tag) ∷ rs;
    are = inr (rs, is, refl);
    moved = IsPermutation-refl (unmarked rs);
  }
