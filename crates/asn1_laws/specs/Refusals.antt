-- Records that a type refuses by an error of its own.
use Rattle.std.specs.Prelude.{◌≡◌, ◌≢◌, ◌↔◌, ℕ, ℤ, ◌≤ℤ◌, Bool, List, [], ◌∷◌, All, length}
use Rattle.std.specs.List.{flat_map}
use Rattle.asn1_tags.specs.declared.tags.Tag.{Tag}
use Rattle.asn1_model.specs.Composites.{list_records}
use Rattle.asn1_model.specs.ConstraintSets.{ConstraintSet}
use Rattle.asn1_model.specs.Meaning.{Meaning, IsWellTagged, own_records}
use Rattle.asn1_model.specs.Records.{Name, Record, number, scalar}
use Rattle.asn1_laws.specs.declared.decode_error.DecodeError.{DecodeError}
use Rattle.asn1_laws.specs.declared.decode_error.DecodeError.TheVariants.{IncorrectItemNumber, OutOfRange}

-- The records that a type refuses under a tag and constraints, each with its error. The codec's test
-- decides which byte strings are one value of an open type.
abbrev pub Refusals : Type 1
Refusals = (List ℕ → Bool) → Tag → ConstraintSet → List Record → DecodeError → Type 0

-- Two types refuse the same.
abbrev pub RefuseTheSame : Refusals → Refusals → Type 0
RefuseTheSame one other = (accepts : List ℕ → Bool) (t : Tag) (c : ConstraintSet) (rs : List Record) (e : DecodeError) →
    one accepts t c rs e ↔ other accepts t c rs e

-- none
abbrev pub no_refusals : Refusals
no_refusals accepts t c rs e = ⊥

-- An INTEGER of a number that is not from the start to the end (X.680, 51.4).
pub record IsOutside (start end : ℤ) (t : Tag) (c : ConstraintSet) (rs : List Record) (e : DecodeError) : Type 0 where
  pub value : ℤ
  pub name : Name
  pub outside : ¬ ((start ≤ℤ value) × (value ≤ℤ end))
  pub records : rs ≡ scalar t c name (number value) ∷ []
  pub error : e ≡ OutOfRange

-- A SEQUENCE OF another number of valid elements of this type (X.680, 51.5).
pub record HasOtherLength {V : Type 0} (m : Meaning V) (expected : ℕ) (accepts : List ℕ → Bool) (t : Tag) (c : ConstraintSet)
    (rs : List Record) (e : DecodeError) : Type 0 where
  pub elements : List V
  pub name : Name
  pub is_well_tagged : IsWellTagged m
  pub of_type : All m.IsOfType elements
  pub valid : All (m.IsValid accepts) elements
  pub other_length : length elements ≢ expected
  pub records : rs ≡ list_records t c name (flat_map (own_records m) elements)
  pub error : e ≡ IncorrectItemNumber expected (length elements)
