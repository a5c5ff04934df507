-- The values that octets inside open types and strings are read as.
use Rattle.std.specs.Prelude.{◌≡◌, ◌≤◌, ℕ, Bool, true, List, MatchOption, Option, Vec}
use Rattle.std.specs.declared.alloc.Global.{Global}
use Rattle.asn1_model.specs.Meaning.{Meaning, own_records}
use Rattle.asn1_model.specs.Records.{highest}
use Rattle.asn1_rules.specs.Rules.{Format}

module _ (F : Format (Vec ℕ Global)) where
  -- The octets, wherever they are kept, are those of this value, which is valid and nested no deeper than the 64 scopes that are read.
  pub record AreOctetsOfValue {V : Type 0} (m : Meaning V) (octets : List ℕ) (value : V) : Type 0 where
    pub of_type : m.IsOfType value
    pub valid : m.IsValid F.accepts value
    pub carried : (kept : Vec ℕ Global) → kept.items ≡ octets → F.carries kept (own_records m value)
    pub within_depth : highest (own_records m value) ≤ 64

  -- the octets are of no such value
  abbrev pub AreOfNoValue : {V : Type 0} → Meaning V → List ℕ → Type 0
  AreOfNoValue {V = V} m octets = (value : V) → ¬ AreOctetsOfValue m octets value

  -- The value that octets were read as, by the meaning and the equality of a type: octets of a value are read as one that is equal to
  -- it. The relation puts no condition on other octets.
  abbrev pub AreReadAs : {V : Type 0} → Meaning V → (V → V → Bool) → List ℕ → Option V → Type 0
  AreReadAs {V = V} m eq octets read =
      (value : V) → AreOctetsOfValue m octets value → MatchOption read ⊥ (λ w. eq w value ≡ true)
