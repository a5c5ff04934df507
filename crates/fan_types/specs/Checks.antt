-- Octets that are the DER of a value of a type.
use Rattle.std.specs.Prelude.{◌≡◌, ◌⊎◌, ◌<◌, ◌≤◌, ℕ, ℤ, Bool, List, Vec}
use Rattle.std.specs.declared.alloc.Global.{Global}
use Rattle.asn1_certificate_rules.specs.Departures.{KeepsRules}
use Rattle.asn1_certificate_rules.specs.Depths.{LiesDeeper}
use Rattle.asn1_certificate_rules.specs.declared.notation.Part.TheVariants as part
use Rattle.asn1_certificate_rules.specs.declared.rule.RuleSet.TheVariants as rules
use Rattle.asn1_convert.specs.Checks.{IsCheckError}
use Rattle.asn1_convert.specs.declared.check.CheckError.{CheckError}
use Rattle.asn1_der.specs.Format.{Carries, der_format}
use Rattle.asn1_laws.specs.Refusals.{Refusals}
use Rattle.asn1_laws.specs.declared.decode_error.DecodeError.{DecodeError}
use Rattle.asn1_model.specs.Meaning.{IsWellTagged, Meaning, own_records}
use Rattle.asn1_model.specs.Records.{Record, highest}
use Rattle.asn1_model.specs.WellFormed.{AreWellFormed}
use Rattle.asn1_rules.specs.CanonicalReading.{HasOneSpelling}
use Rattle.fan_calls.specs.Statuses.{FAN_DEEP, FAN_MEMORY, FAN_OK}
use Rattle.fan_calls.specs.declared.status.Status.{Status}
use Rattle.fan_types.specs.OpenTypes.{OpenTypesAreElements}
use Rattle.fan_types.specs.Refusals.{status_of_check}

-- The octets break no rule of X.690 that reading asks for, at any depth, also inside open types.
abbrev pub KeepRules : List ℕ → Type 0
KeepRules octets = KeepsRules rules.OfReading part.Other octets

-- Contents octets that hold elements lie inside more constructed elements than the depth.
abbrev pub LieDeeper : ℕ → List ℕ → Type 0
LieDeeper depth octets = (position : ℕ) × LiesDeeper depth part.Other octets position

module _ {V : Type 0} (m : Meaning V) where
  -- A value that meets the invariant of its type, whose open types hold one element each, whose scopes are nested at most 64 deep,
  -- and of which the octets are the DER.
  pub record ValueOf (octets : List ℕ) : Type 0 where
    pub value : V
    pub of_type : m.IsOfType value
    pub open_types : OpenTypesAreElements (own_records m value)
    pub carries : Carries octets (own_records m value)
    pub shallow : highest (own_records m value) ≤ 64

  -- the octets are the DER of such a value; at a concrete type a proof does not look for one
  unfoldable pub IsDerOf : List ℕ → Type 0
  IsDerOf octets = ValueOf octets

  -- The octets are the DER of no records that the type refuses, as an INTEGER type refuses a number outside its limits; at a concrete
  -- type a proof does not look for them.
  unfoldable pub AreOfNoneRefused : Refusals → List ℕ → Type 0
  AreOfNoneRefused refusals octets =
      (rs : List Record) (e : DecodeError) → refusals der_format.accepts m.tag m.constraints rs e → AreWellFormed der_format.accepts rs → ¬ Carries octets rs

  -- The octets are the DER of this value, which is valid, and no other octets are; and they break no rule.
  pub record IsOnlyDerOf (eq : V → V → Bool) (value : V) (octets : List ℕ) : Type 0 where
    pub of_type : m.IsOfType value
    pub valid : m.IsValid der_format.accepts value
    pub carries : Carries octets (own_records m value)
    pub one_spelling : HasOneSpelling der_format m eq value octets
    pub keep_rules : KeepRules octets

  -- the status of a value's octets: they are accepted if its scopes are nested at most 64 deep, and too deep if they are nested
  -- deeper or elements inside them are, unless memory ran out
  abbrev pub IsStatusOf : V → List ℕ → ℤ → Type 0
  IsStatusOf value octets status =
      ((status ≡ FAN_OK) × (highest (own_records m value) ≤ 64)) ⊎
      ((status ≡ FAN_DEEP) × ((64 < highest (own_records m value)) ⊎ LieDeeper 64 octets)) ⊎
      (status ≡ FAN_MEMORY)

  -- this is the status of octets that are the only DER of a valid value, if the type is well tagged
  abbrev pub AcceptsOnlyDer : (V → V → Bool) → List ℕ → ℤ → Type 0
  AcceptsOnlyDer eq octets status = (value : V) → IsWellTagged m → IsOnlyDerOf eq value octets → IsStatusOf value octets status

  -- The octets were looked through down to 64 elements, read and written again with 64 nested scopes at most, and refused for an
  -- error of this status.
  pub record AreRefusedAs (eq : V → V → Bool) (refusals : Refusals) (status : Status) (octets : List ℕ) : Type 0 where
    pub error : CheckError
    pub input : Vec ℕ Global
    pub are : input.items ≡ octets
    pub departs : IsCheckError m eq refusals 64 input error
    pub is : status_of_check error ≡ status
