-- How values that were written one after another come back, and why they do not.
use Rattle.std.specs.Prelude.{◌≡◌, ℕ, Bool, List, Vec}
use Rattle.std.specs.declared.alloc.Global.{Global}
use Rattle.asn1_laws.specs.declared.decode_error.DecodeError.TheVariants.{Memory}
use Rattle.asn1_model.specs.Meaning.{Meaning, own_records}
use Rattle.asn1_model.specs.Records.{highest}
use Rattle.asn1_rules.specs.Rules.{Format}
use Rattle.asn1_rules.specs.declared.round_trips.RoundTripError.{RoundTripError}
use Rattle.asn1_rules.specs.declared.round_trips.RoundTripError.TheVariants.{Writing, Reading}
use Rattle.asn1_rules.specs.Fronts.{Fronts}
use Rattle.asn1_rules.specs.Outputs.{AreOutputs, OneIsNotWritten}
use Rattle.asn1_rules.specs.Pieces.{AreReadOf, ComeBack}
use Rattle.asn1_rules.specs.declared.pieces.Pieces.{Pieces}

-- One of the values was not written, or there was no memory for a piece or for a value that was
-- read.
abbrev pub FailsInPieces : {V : Type 0} → Format (Vec ℕ Global) → Meaning V → ℕ → List V → RoundTripError → Type 0
FailsInPieces format m depth vs (Writing e) = OneIsNotWritten format m depth vs e
FailsInPieces format m depth vs (Reading e) = e ≡ Memory

-- The values that were read of the pieces are these values, as far as both go: equal, and in their
-- order. If one is missing and an error was the last answer, memory ran out, or that value is nested
-- deeper than the reader's depth.
abbrev pub ValuesComeBack : {V : Type 0} → Meaning V → (V → V → Bool) → ℕ → List V → Pieces V → Type 0
ValuesComeBack m eq depth vs read =
    ComeBack eq (λ v. highest (own_records m v)) depth read.values.items vs read.last

-- Values were read, one after another, of outputs of the first ones, whatever these are.
pub record AreReadBack {R V : Type 0} (F : Fronts R V) (reader : R) (format : Format (Vec ℕ Global)) (m : Meaning V) (depth : ℕ) (vs ws : List V) : Type 0 where
  pub bytes : List ℕ
  pub outputs : AreOutputs format m depth vs bytes
  pub are_read : AreReadOf F reader ws bytes
