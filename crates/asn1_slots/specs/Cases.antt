-- The cases of a CHOICE: its alternatives, each with the values that are made of it.
use Rattle.std.specs.Prelude.{◌≡◌, ◌<◌, ℕ, zero, suc, ⊤, Bool, true, List, [], ◌∷◌, drop, length, take, IfOk, Result, Ok, Err}
use Rattle.std.proofs.Common.{inl, inr}
use Rattle.asn1_components.specs.Alternatives.{Alternative, Alternatives, OneOf, alternative, all_of, closed, extensible, trees_of}
use Rattle.asn1_laws.specs.Reading.{Reader}
use Rattle.asn1_laws.specs.ReadingExactly.{WasRead}
use Rattle.asn1_laws.specs.declared.decode_error.DecodeError.{DecodeError}
use Rattle.asn1_model.specs.TaggedTypes.{TaggedType}
use Rattle.asn1_tags.specs.Order.{structures_cmp}
use Rattle.std.specs.Ordering.{is_eq}
use Rattle.asn1_slots.specs.Filling.{ReadsComponent}

-- A call that reads the value of an alternative: of each that is of the type and valid it answers
-- an equal one, and after each success nothing was read but what is read as its answer.
pub record ReadsValueOf {D W : Type 0} (R : Reader D) (type : TaggedType W) (eq : W → W → Bool)
    (old new : D) (result : Result W DecodeError) : Type 0 where
  pub reads : ReadsComponent R type (λ v w. eq w v ≡ true) old new result
  pub exactly : IfOk result (λ w. WasRead R old new (type.IsReadAs w))

-- An alternative of the values V (X.680, 29.1): its name, the value that is made of one of its type,
-- this type, and when two of the type are equal.
pub record Case (V : Type 0) : Type 1 where
  pub Value : Type 0
  pub name : List ℕ
  pub make : Value → V
  pub type : TaggedType Value
  pub eq : Value → Value → Bool

-- the case of this name, whose values are made by this variant
abbrev pub variant : {V W : Type 0} → List ℕ → (W → V) → TaggedType W → (W → W → Bool) → Case V
variant {W = W} name make type eq =
    record { Value = W; name = name; make = make; type = type; eq = eq }

module _ {V : Type 0} where
  -- the alternatives
  abbrev pub alternatives_of : List (Case V) → List Alternative
  alternatives_of [] = []
  alternatives_of (h ∷ hs) = alternative h.name h.type ∷ alternatives_of hs

  -- a CHOICE of these, without an extension marker
  abbrev pub choice_of_cases : List (Case V) → Alternatives
  choice_of_cases cases = closed (alternatives_of cases)

  -- one whose root has this many of them, and then an extension marker
  abbrev pub extensible_choice_after : ℕ → List (Case V) → Alternatives
  extensible_choice_after k cases =
      extensible (alternatives_of (take k cases)) (alternatives_of (drop k cases))

  -- the call has read the alternative at this index, which this value is
  abbrev pub HasReadAt : {D : Type 0} → Reader D → (cases : List (Case V)) → ℕ → D → D →
      OneOf (alternatives_of cases) → Type 0
  HasReadAt R [] index old new x = absurd x
  HasReadAt R (h ∷ hs) zero old new (inl w) = ReadsValueOf R h.type h.eq old new (Ok w)
  HasReadAt R (h ∷ hs) zero old new (inr x) = ⊥
  HasReadAt R (h ∷ hs) (suc index) old new (inl w) = ⊥
  HasReadAt R (h ∷ hs) (suc index) old new (inr x) = HasReadAt R hs index old new x

  -- it has failed to, by this error
  abbrev pub FailsAt : {D : Type 0} → Reader D → List (Case V) → ℕ → D → D → DecodeError → Type 0
  FailsAt R [] index old new e = ⊤
  FailsAt R (h ∷ hs) zero old new e = ReadsValueOf R h.type h.eq old new (Err e)
  FailsAt R (h ∷ hs) (suc index) old new e = FailsAt R hs index old new e

  -- The call reads the alternative at this index. Where there is none it answers no value.
  abbrev pub ReadsCaseAt : {D : Type 0} → Reader D → (cases : List (Case V)) →
      (V → OneOf (alternatives_of cases)) → ℕ → D → D → Result V DecodeError → Type 0
  ReadsCaseAt R cases case_of index old new (Ok v) = HasReadAt R cases index old new (case_of v)
  ReadsCaseAt R cases case_of index old new (Err e) =
      index < length cases → FailsAt R cases index old new e

  -- The value is made of the chosen alternative, and is equal to what is made of an equal one.
  abbrev pub IsMade : (V → V → Bool) → (cases : List (Case V)) → OneOf (alternatives_of cases) →
      V → Type 0
  IsMade eq [] x v = absurd x
  IsMade eq (h ∷ hs) (inl w) v = (h.make w ≡ v) × ((u : h.Value) → eq (h.make u) v ≡ h.eq u w)
  IsMade eq (h ∷ hs) (inr x) v = IsMade eq hs x v

  -- whether the alternatives have the trees of these cases, in their order
  abbrev pub are_of_cases : Alternatives → List (Case V) → Bool
  are_of_cases alternatives cases =
      is_eq (structures_cmp (trees_of (all_of alternatives)) (trees_of (alternatives_of cases)))
