-- Octets that were looked through, read and written again: what they are if that succeeds, and why it fails.
use Rattle.std.proofs.Common.{◌≡◌, ◌≢◌, ◌∙◌, ◌<◌, ℕ, Bool, List, Ok, ap, refl, subst, sym, inl, inr}
use Rattle.std.specs.Prelude.{◌⊎◌, Vec}
use Rattle.std.specs.declared.alloc.Global.{Global}
use Rattle.asn1_convert.specs.Checks.{AreRefusedFor, IsCheckError}
use Rattle.asn1_convert.specs.declared.check.CheckError.{CheckError}
use Rattle.asn1_convert.specs.declared.check.CheckError.TheVariants.{Broken, NotCanonical}
use Rattle.asn1_der.specs.Format.{Carries, der_format}
use Rattle.asn1_laws.specs.Refusals.{Refusals}
use Rattle.asn1_model.specs.Meaning.{IsWellTagged, Meaning, own_records}
use Rattle.asn1_model.specs.Records.{highest}
use Rattle.asn1_rules.specs.CanonicalReading.{HasOneSpelling, IsRefusedFor, IsWrittenAs, MayAnswer}
use Rattle.asn1_rules.specs.declared.canonical.CanonicalError.{CanonicalError}
use Rattle.fan_calls.specs.Statuses.{FAN_OK, number_of}
use Rattle.fan_calls.specs.declared.status.Status.{Status}
use Rattle.fan_calls.specs.declared.status.Status.TheVariants as status
use Rattle.fan_types.specs.Checks.{AcceptsOnlyDer, AreOfNoneRefused, AreRefusedAs, IsDerOf, IsOnlyDerOf, KeepRules, LieDeeper}
use Rattle.fan_types.specs.Refusals.{status_of_canonical, status_of_check}
use Rattle.fan_types.proofs.OpenTypes.{are_elements}

-- statuses differ
memory_is_no_fault : status.Fault ≡ status.Memory → ⊥
memory_is_no_fault same = cc

depth_is_no_fault : status.Fault ≡ status.Deep → ⊥
depth_is_no_fault same = cc

-- octets keep the rules as their copy does
pub kept : (own octets : List ℕ) → own ≡ octets → KeepRules own → KeepRules octets
kept own octets same keep = subst KeepRules same keep

module _ {V : Type 0} (m : Meaning V) where
  -- octets that writing a value makes are its DER
  pub is_der : (value : V) (own octets : List ℕ) → own ≡ octets → IsWrittenAs der_format m 64 value own → IsDerOf m octets
  unfolding IsDerOf
  is_der value own octets same w = record {
    value = value;
    of_type = w.written.of_type;
    open_types = are_elements w.output.items (own_records m value) w.written.carried;
    carries = subst (λ l. Carries l (own_records m value)) (w.has_bytes ∙ same) w.written.carried;
    shallow = w.written.within_depth_left;
  }

  -- why octets that are the only DER of a value are refused: memory ran out, or the scopes are nested too deep, or elements
  status_of_canonical_refused : (value : V) (e : CanonicalError) → IsRefusedFor der_format m 64 value e →
      (status_of_canonical e ≡ status.Memory) ⊎ ((status_of_canonical e ≡ status.Deep) × (64 < highest (own_records m value)))
  status_of_canonical_refused value e (inl is) = inl (subst (λ x. status_of_canonical x ≡ status.Memory) (sym is) refl)
  status_of_canonical_refused value e (inr (inl is)) = inl (subst (λ x. status_of_canonical x ≡ status.Memory) (sym is) refl)
  status_of_canonical_refused value e (inr (inr (is, deeper))) = inr (subst (λ x. status_of_canonical x ≡ status.Deep) (sym is) refl, deeper)

  status_of_refused : (value : V) (octets : List ℕ) (e : CheckError) → AreRefusedFor m 64 value octets e →
      (status_of_check e ≡ status.Memory) ⊎ ((status_of_check e ≡ status.Deep) × ((64 < highest (own_records m value)) ⊎ LieDeeper 64 octets))
  status_of_refused value octets (Broken f) (position, is, lies) =
      inr (subst (λ x. status_of_check (Broken x) ≡ status.Deep) (sym is) refl, inr (position, lies))
  status_of_refused value octets (NotCanonical e) refused = elim (status_of_canonical_refused value e refused) [
    | inl memory ↦ inl memory
    | inr (deep, deeper) ↦ inr (deep, inl deeper)
  ]

  module _ (eq : V → V → Bool) (own : Vec ℕ Global) (octets : List ℕ) (same : own.items ≡ octets) where
    -- a value that was read is nested no deeper than the depth
    pub accepted : (refusals : Refusals) (w : V) → MayAnswer der_format m eq refusals 64 own (Ok w) → AcceptsOnlyDer m eq octets FAN_OK
    accepted refusals w answered value tagged only =
        inl (refl, (answered.read value tagged only.of_type only.valid (subst (λ l. Carries l (own_records m value)) (sym same) only.carries)).1)

    -- what was read is none of what the type refuses
    pub none_refused : (refusals : Refusals) (w : V) → MayAnswer der_format m eq refusals 64 own (Ok w) → AreOfNoneRefused m refusals octets
    unfolding AreOfNoneRefused
    none_refused refusals w answered = λ rs e refused formed carried.
        answered.refuses rs e refused formed (subst (λ l. Carries l rs) (sym same) carried)

    module _ (e : CheckError) where
      -- each value of which the octets are the only DER is refused for memory or depth
      abbrev pub IsRefusedWell : Type 0
      IsRefusedWell = (value : V) → IsWellTagged m → m.IsOfType value → m.IsValid der_format.accepts value →
          der_format.carries own (own_records m value) → HasOneSpelling der_format m eq value own.items → KeepRules own.items →
          AreRefusedFor m 64 value own.items e

      of_only : IsRefusedWell → (value : V) → IsWellTagged m → IsOnlyDerOf m eq value octets →
          (status_of_check e ≡ status.Memory) ⊎ ((status_of_check e ≡ status.Deep) × ((64 < highest (own_records m value)) ⊎ LieDeeper 64 octets))
      of_only refused value tagged only =
          status_of_refused value octets e (subst (λ l. AreRefusedFor m 64 value l e) same (refused value tagged only.of_type only.valid
          (subst (λ l. Carries l (own_records m value)) (sym same) only.carries)
          (subst (λ l. HasOneSpelling der_format m eq value l) (sym same) only.one_spelling)
          (subst KeepRules (sym same) only.keep_rules)))

      -- they are refused with this status, if it is that of the error wherever the octets are not at fault
      pub refused : IsRefusedWell → (s : Status) → (status_of_check e ≢ status.Fault → s ≡ status_of_check e) →
          AcceptsOnlyDer m eq octets (number_of s)
      refused well s is value tagged only =
          elim (of_only well value tagged only) [
            | inl memory ↦ inr (inr (ap number_of (is (λ fault. memory_is_no_fault (sym fault ∙ memory)) ∙ memory)))
            | inr (deep, deeper) ↦ inr (inl (ap number_of (is (λ fault. depth_is_no_fault (sym fault ∙ deep)) ∙ deep), deeper))
          ]

      -- why they were refused
      pub are_refused : (refusals : Refusals) (s : Status) → IsCheckError m eq refusals 64 own e → status_of_check e ≡ s →
          AreRefusedAs m eq refusals s octets
      are_refused refusals s departs is = record { error = e; input = own; are = same; departs = departs; is = is }
