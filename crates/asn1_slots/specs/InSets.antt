-- A component of a SET, which is one record, or absent.
use Rattle.std.specs.Prelude.{◌≡◌, ◌≢◌, ◌≤◌, ℕ, Bool, true, false, List, [], ◌∷◌, Option, None, Some, IfSome, Result, refl, if◌then◌else◌}
use Rattle.std.proofs.Common.{◌∙◌, ap, arith, cond, subst, sym}
use Rattle.std.specs.Option.{option_eq, option_map}
use Rattle.asn1_laws.specs.Reading.{Outside, Reader, ReadsBack, records_in}
use Rattle.asn1_laws.specs.declared.decode_error.DecodeError.{DecodeError}
use Rattle.asn1_model.specs.Composites.{default_records, option_records}
use Rattle.asn1_model.specs.Records.{Record, Side, unmarked}
use Rattle.asn1_model.specs.TaggedTypes.{TaggedType}
use Rattle.asn1_model.specs.Tags.{IsOneRecord, Tags}
use Rattle.asn1_slots.specs.Filling.{FillsOnce}

-- what a value has, where it is not the default
abbrev pub unless_default : {W : Type 0} → Bool → W → Option W
unless_default is_default w = if is_default then None else Some w

one_unmarked : (tags : Tags) (rs : List Record) → IsOneRecord tags rs → unmarked rs ≡ rs
one_unmarked tags rs one =
    ap unmarked one.alone ∙ ap (λ b. cond b [] (one.item ∷ [])) one.no_mark ∙ sym one.alone

not_empty : {P : Type 0} (tags : Tags) (rs : List Record) → IsOneRecord tags rs → rs ≡ [] → P
not_empty tags rs one none = let wrong : one.item ∷ [] ≡ [] = sym one.alone ∙ none in cc

at_most_one : (tags : Tags) (rs : List Record) → IsOneRecord tags rs → records_in rs ≤ 1
at_most_one tags rs one =
    let alone : records_in rs ≡ records_in (one.item ∷ []) = ap records_in one.alone in
    let counted : records_in (one.item ∷ []) ≡ 1 = ap (λ b. if b then 0 else 1) one.no_mark in
    omega arith

module _ {W : Type 0} (type : TaggedType W) where
  -- the records of what is there
  abbrev pub records_of : Option W → List Record
  records_of None = []
  records_of (Some w) = type.records w

  module _ (can : type.IsWellTagged) where
    pub written_required : (w : W) → unmarked (type.records w) ≡ records_of (Some w)
    written_required w = one_unmarked _ (type.records w) (type.one_record can w)

    pub written_optional : (side : Side) (o : Option W) →
        unmarked (option_records side type.tag (option_map type.records o)) ≡ records_of o
    written_optional side None = refl
    written_optional side (Some w) = one_unmarked _ (type.records w) (type.one_record can w)

    pub written_default : (side : Side) (is_default : Bool) (w : W) →
        unmarked (default_records side is_default type.tag (type.records w)) ≡
        records_of (unless_default is_default w)
    written_default side true w = refl
    written_default side false w = one_unmarked _ (type.records w) (type.one_record can w)

    pub one_required : (w : W) → records_in (type.records w) ≤ 1
    one_required w = at_most_one _ (type.records w) (type.one_record can w)

    pub one_optional : (side : Side) (o : Option W) →
        records_in (option_records side type.tag (option_map type.records o)) ≤ 1
    one_optional side None = omega arith
    one_optional side (Some w) = at_most_one _ (type.records w) (type.one_record can w)

    pub one_default : (side : Side) (is_default : Bool) (w : W) →
        records_in (default_records side is_default type.tag (type.records w)) ≤ 1
    one_default side true w = omega arith
    one_default side false w = at_most_one _ (type.records w) (type.one_record can w)

    -- a slot is right that is empty where nothing is there
    pub slot_of_absent : (eq : W → W → Bool) (slot o : Option W) (rs : List Record) → rs ≡ records_of o →
        slot ≡ None → rs ≡ [] → option_eq eq slot o ≡ true
    slot_of_absent eq slot None rs written empty none = ap (λ s. option_eq eq s None) empty
    slot_of_absent eq slot (Some w) rs written empty none =
        not_empty _ (type.records w) (type.one_record can w) (sym written ∙ none)

  -- what is there is read into the slot
  pub slot_of_present : {D A : Type 0} (R : Reader D) (name : List ℕ) (eq : W → W → Bool) (old new : D)
      (before after : Option W) (result : Result A DecodeError) →
      FillsOnce R name type eq old new before after result → before ≡ None → (o : Option W)
      (rs rest : List Record) (outer : Outside) → type.IsWellTagged → IfSome o type.IsOfType →
      IfSome o (type.IsValid R.accepts) → rs ≡ records_of o → rs ≢ [] →
      ReadsBack R old new rs rest outer (λ _. option_eq eq after o ≡ true) result
  slot_of_present R name eq old new before after result fills empty None rs rest outer can of_type valid written some =
      absurd (some written)
  slot_of_present R name eq old new before after result fills empty (Some w) rs rest outer can of_type valid written some =
      subst (λ l. ReadsBack R old new l rest outer (λ _. option_eq eq after (Some w) ≡ true) result) (sym written)
      (fills.reads empty w rest outer can of_type valid)
