-- The value that octets were read as, by the answer of the call.
use Rattle.std.proofs.Common.{◌≡◌, ℕ, Bool, Err, List, None, Ok, Some, Vec, arith, inl, inr}
use Rattle.std.specs.declared.alloc.Global.{Global}
use Rattle.asn1_certificate_reader.specs.Inside.{AreOctetsOfValue, AreReadAs}
use Rattle.asn1_laws.specs.declared.decode_error.DecodeError.{DecodeError}
use Rattle.asn1_laws.specs.declared.decode_error.DecodeError.TheVariants.{Memory}
use Rattle.asn1_laws.specs.Reading.{MayFail}
use Rattle.asn1_model.specs.Meaning.{IsWellTagged, Meaning, own_records}
use Rattle.asn1_model.specs.Records.{highest}
use Rattle.asn1_rules.specs.Rules.{Format, ReadsCarried}

module _ {V : Type 0} (F : Format (Vec ℕ Global)) (m : Meaning V) (eq : V → V → Bool) (octets : List ℕ) (kept : Vec ℕ Global) where
  -- they were read as a value
  pub read_as_value : (w : V) → kept.items ≡ octets → ReadsCarried F.accepts (F.carries kept) m eq 64 (Ok w) → IsWellTagged m → AreReadAs F m eq octets (Some w)
  read_as_value w same reads well = λ value of. (reads value well of.of_type of.valid (of.carried kept same)).0

  -- nothing is too deep, and there was memory
  no_failure : (e : DecodeError) (value : V) → (e ≡ Memory → ⊥) → AreOctetsOfValue F m octets value → MayFail 64 (highest (own_records m value)) e → ⊥
  no_failure e value memory of failed = elim failed [ inl no_memory ↦ memory no_memory | inr too_deep ↦ omega (arith, too_deep.1, of.within_depth) ]

  -- they were read as none
  pub read_as_none : (e : DecodeError) → kept.items ≡ octets → (e ≡ Memory → ⊥) → ReadsCarried F.accepts (F.carries kept) m eq 64 (Err e) → IsWellTagged m → AreReadAs F m eq octets None
  read_as_none e same memory reads well = λ value of. no_failure e value memory of (reads value well of.of_type of.valid (of.carried kept same))
