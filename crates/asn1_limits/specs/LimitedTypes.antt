-- Types within limits (X.680, 49 and 51): what they mean, and what they refuse.
use Rattle.std.specs.Prelude.{◌≡◌, ◌⊎◌, ℕ, Bool, List, MatchResult, Result, Err}
use Rattle.asn1_tags.specs.declared.tags.Tag.{Tag}
use Rattle.asn1_model.specs.ConstraintSets.{ConstraintSet}
use Rattle.asn1_model.specs.Meaning.{Meaning, IsWellTaggedUnder}
use Rattle.asn1_model.specs.Records.{Name, Record}
use Rattle.asn1_laws.specs.Refusals.{Refusals}
use Rattle.asn1_laws.specs.declared.decode_error.DecodeError.{DecodeError}
use Rattle.asn1_laws.specs.declared.decode_error.DecodeError.TheVariants.{OutOfRange}

-- The type within limits: its values are those of the type that are within, and mean the same. The constraints are those of the
-- type, with those of the limits.
abbrev pub limited_type : {V : Type 0} → (V → Type 0) → (ConstraintSet → ConstraintSet) → Meaning V → Meaning V
limited_type IsWithin constrained m = record m {
  constraints = constrained m.constraints;
  IsOfType = λ v. m.IsOfType v × IsWithin v;
}

-- The records of a valid value of the type that is outside the limits. The error is that of a number out of range.
pub record IsOutsideLimits {V : Type 0} (m : Meaning V) (IsWithin : V → Type 0) (accepts : List ℕ → Bool) (t : Tag)
    (c : ConstraintSet) (rs : List Record) (e : DecodeError) : Type 0 where
  pub value : V
  pub name : Name
  pub is_well_tagged : IsWellTaggedUnder m t
  pub of_type : m.IsOfType value
  pub valid : m.IsValid accepts value
  pub outside : ¬ IsWithin value
  pub records : rs ≡ m.records value t c name
  pub error : e ≡ OutOfRange

-- what the type refuses, and its values outside the limits
abbrev pub refusals_outside : {V : Type 0} → Meaning V → (V → Type 0) → Refusals → Refusals
refusals_outside m IsWithin refusals accepts t c rs e =
    refusals accepts t c rs e ⊎ IsOutsideLimits m IsWithin accepts t c rs e

-- An answer is passed on if it is an error or a value within the limits; else it becomes the error of a number out of range.
abbrev pub IsPassedIfWithin : {V : Type 0} → (V → Type 0) → Result V DecodeError → Result V DecodeError → Type 0
IsPassedIfWithin IsWithin answer result =
    MatchResult answer
    (λ v. MatchResult result (λ w. (w ≡ v) × IsWithin v) (λ e. (e ≡ OutOfRange) × ¬ IsWithin v))
    (λ e. result ≡ Err e)
