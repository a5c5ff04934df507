-- A call that reads a value from a complete input.
use Rattle.std.specs.Prelude.{◌≡◌, Bool, true, List, [], ◌++◌, Result, IsErr}
use Rattle.asn1_laws.specs.Reading.{Reader}
use Rattle.asn1_laws.specs.Refusals.{Refusals}
use Rattle.asn1_laws.specs.declared.decode_error.DecodeError.{DecodeError}
use Rattle.asn1_model.specs.Meaning.{IsWellTagged, Meaning, own_records}
use Rattle.asn1_model.specs.Records.{Record, highest}
use Rattle.asn1_rules.specs.Rules.{ReadsWhole, RefusesWhole}

module _ {D : Type 0} (R : Reader D) {V : Type 0} (m : Meaning V) where
  -- If exactly the own records of a valid value of a well-tagged type remain, it answers an equal value.
  abbrev pub ReadsOwnRecords : (V → V → Bool) → D → Result V DecodeError → Type 0
  ReadsOwnRecords eq d result =
      (v : V) → IsWellTagged m → m.IsOfType v → m.IsValid R.accepts v → R.remains d (own_records m v, []) →
      ReadsWhole (highest (own_records m v)) (R.depth_left d) (λ w. eq w v ≡ true) result

  -- If exactly records remain that the type refuses, it refuses them with the error of the type.
  abbrev pub RefusesAsItsType : Refusals → D → Result V DecodeError → Type 0
  RefusesAsItsType refusals d result =
      (rs : List Record) (error : DecodeError) → refusals R.accepts m.tag m.constraints rs error → R.remains d (rs, []) →
      RefusesWhole (highest rs) (R.depth_left d) error result

  -- If other records remain after those of a valid value of a well-tagged type, and these are not nothing to the codec, it fails.
  abbrev pub RefusesWhatFollows : D → Result V DecodeError → Type 0
  RefusesWhatFollows d result =
      (v : V) (rest : List Record) → IsWellTagged m → m.IsOfType v → m.IsValid R.accepts v →
      R.remains d (own_records m v ++ rest, []) →
      ((e : D) → R.remains e (rest, []) → R.remains e ([], []) → ⊥) → IsErr result
