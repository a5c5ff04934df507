-- The outputs of values, one after another.
use Rattle.std.specs.Prelude.{All, ℕ, List, [], ◌∷◌, ◌++◌, Contains, Vec}
use Rattle.std.specs.declared.alloc.Global.{Global}
use Rattle.asn1_laws.specs.declared.encode_error.EncodeError.{EncodeError}
use Rattle.asn1_model.specs.Meaning.{Meaning, own_records}
use Rattle.asn1_rules.specs.Rules.{Format, IsWritten, IsNotWritten}
use Rattle.asn1_rules.specs.Fronts.{Fronts}
use Rattle.asn1_rules.specs.Pieces.{AreFronts}

module _ {V : Type 0} (format : Format (Vec ℕ Global)) (m : Meaning V) (depth : ℕ) where
  -- The bytes are outputs of these values, one after another.
  pub data AreOutputs : List V → List ℕ → Type 0 where
    no_output : AreOutputs [] []
    output_and : {v : V} {vs : List V} {bytes : List ℕ} (output : Vec ℕ Global) → IsWritten format (own_records m v) (m.IsOfType v) depth output →
        AreOutputs vs bytes → AreOutputs (v ∷ vs) (output.items ++ bytes)

  -- One of the values was not written, as writing it may fail.
  abbrev pub OneIsNotWritten : List V → EncodeError → Type 0
  OneIsNotWritten vs e = (v : V) × Contains vs v × IsNotWritten format (own_records m v) depth e

-- To a reader, bytes that are outputs of valid values are fronts of these values.
abbrev pub OutputsAreFronts : {R V : Type 0} → Fronts R V → R → Format (Vec ℕ Global) → Meaning V → ℕ → Type 0
OutputsAreFronts {V = V} F reader format m depth = (vs : List V) (bytes : List ℕ) →
    All (m.IsValid format.accepts) vs → AreOutputs format m depth vs bytes → AreFronts F reader vs bytes
