-- Calls that read a component into its slot.
use Rattle.std.specs.Prelude.{◌≡◌, ℕ, Bool, true, false, List, Option, None, Some, IfSome, IsSome, IsSomeAnd, OnOk, Result, is_some}
use Rattle.std.specs.Option.{option_eq, option_map}
use Rattle.std.specs.Result.{IsErrAnd}
use Rattle.asn1_components.specs.ComponentLists.{CanBeInSequence, EachIsOfType, EachIsValid, IsReadAsGroup, trees_of}
use Rattle.asn1_components.specs.Components.{Components, all_components, component_records, rows}
use Rattle.asn1_components.specs.Following.{BeginsApart}
use Rattle.asn1_laws.specs.DecodeErrors.{duplicate_field, reason}
use Rattle.asn1_laws.specs.Reading.{Outside, Reader, ReadsBack}
use Rattle.asn1_laws.specs.ReadingExactly.{WasRead}
use Rattle.asn1_laws.specs.declared.decode_error.DecodeError.{DecodeError}
use Rattle.asn1_model.specs.Composites.{group_records, option_records}
use Rattle.asn1_model.specs.Readings.{IsReadAsOption}
use Rattle.asn1_model.specs.Records.{Record, Side, presence_marks_alone}
use Rattle.asn1_model.specs.TaggedTypes.{TaggedType}
use Rattle.asn1_tags.specs.Trees.{choice}

module _ {D W A : Type 0} (R : Reader D) where
  -- A call that reads a component that is always there: of each value that is of the type and
  -- valid, it answers what `Is` holds of.
  abbrev pub ReadsComponent : TaggedType W → (W → A → Type 0) → D → D →
      Result A DecodeError → Type 0
  ReadsComponent type Is old new result =
      (v : W) (rest : List Record) (outer : Outside) → type.IsWellTagged → type.IsOfType v →
      type.IsValid R.accepts v → ReadsBack R old new (type.records v) rest outer (Is v) result

  -- A call that reads a component that may be absent, on this side: what follows it begins with
  -- none of its tags.
  abbrev pub ReadsOptionalComponent : Side → TaggedType W → (Option W → A → Type 0) → D → D →
      Result A DecodeError → Type 0
  ReadsOptionalComponent side type Is old new result =
      (v : Option W) (rest : List Record) (outer : Outside) → type.IsWellTagged →
      IfSome v type.IsOfType → IfSome v (type.IsValid R.accepts) → BeginsApart type.tree rest →
      ReadsBack R old new (option_records side type.tag (option_map type.records v)) rest outer
      (Is v) result

  -- A call that reads a component that is always there into this slot: then the slot holds an
  -- equal value. After each success it is full, and nothing was read but what is read as its value.
  pub record Fills (type : TaggedType W) (eq : W → W → Bool) (old new : D)
      (slot : Option W) (result : Result A DecodeError) : Type 0 where
    pub reads : ReadsComponent type (λ v _. option_eq eq slot (Some v) ≡ true) old new result
    pub is_full : OnOk result (is_some slot ≡ true)
    pub exactly : OnOk result (IsSomeAnd slot (λ w. WasRead R old new (type.IsReadAs w)))

  -- one that may be absent, on this side: then the slot holds an equal value, or nothing
  pub record FillsOptional (side : Side) (type : TaggedType W) (eq : W → W → Bool) (old new : D)
      (slot : Option W) (result : Result A DecodeError) : Type 0 where
    pub reads : ReadsOptionalComponent side type (λ v _. option_eq eq slot v ≡ true) old new result
    pub exactly : OnOk result (WasRead R old new (IsReadAsOption type.IsReadAs side type.tag slot))

  -- A call that reads a component of a SET, of this name, into this slot. It reads into an empty slot
  -- as a call for a required component; a full slot means that the component came before, and is
  -- refused.
  pub record FillsOnce (name : List ℕ) (type : TaggedType W) (eq : W → W → Bool)
      (old new : D) (before after : Option W) (result : Result A DecodeError) : Type 0 where
    pub reads : before ≡ None →
        ReadsComponent type (λ v _. option_eq eq after (Some v) ≡ true) old new result
    pub exactly : before ≡ None → OnOk result (IsSomeAnd after (λ w. WasRead R old new (type.IsReadAs w)))
    pub twice : IsSome before → IsErrAnd result (λ e. reason e ≡ duplicate_field name)

  -- a group of additions (X.680, 25.1), which may be absent too
  pub record FillsGroup (components : Components W) (eq : W → W → Bool) (old new : D)
      (slot : Option W) (result : Result A DecodeError) : Type 0 where
    pub reads : (v : Option W) (rest : List Record) (outer : Outside) →
        CanBeInSequence (all_components components) →
        IfSome v (EachIsOfType (all_components components)) →
        IfSome v (λ w. EachIsValid (all_components components) R.accepts w ×
        (presence_marks_alone (component_records components w) ≡ false)) →
        BeginsApart (choice (trees_of (all_components components))) rest →
        ReadsBack R old new
        (group_records (rows components) (option_map (component_records components) v)) rest outer
        (λ _. option_eq eq slot v ≡ true) result
    pub exactly : OnOk result (WasRead R old new (IsReadAsGroup (rows components) (all_components components) slot))
