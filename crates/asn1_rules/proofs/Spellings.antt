-- A value with one spelling, read and written again.
use Rattle.std.proofs.Common.{◌≡◌, ◌⊎◌, ◌<◌, ◌≤◌, ℕ, Bool, true, List, inl, inr, refl, sym, ◌∙◌, arith}
use Rattle.std.specs.Prelude.{Vec}
use Rattle.std.specs.declared.alloc.Global.{Global}
use Rattle.asn1_laws.specs.declared.encode_error.EncodeError.{EncodeError}
use Rattle.asn1_laws.specs.declared.encode_error.EncodeError.TheVariants.{Memory, Depth, Failed, Custom}
use Rattle.asn1_model.proofs.RecordLists.{inner_height-held}
use Rattle.asn1_model.proofs.SameRecords.{same-inner_height}
use Rattle.asn1_model.specs.Meaning.{Meaning, own_records}
use Rattle.asn1_model.specs.Orders.{SameRecords}
use Rattle.asn1_model.specs.Records.{Record, highest}
use Rattle.asn1_rules.specs.CanonicalReading.{AreOctets, HasOneSpelling}
use Rattle.asn1_rules.specs.Rules.{Format, IsLawful, IsNotWritten, IsWritten}

-- records that are the same up to order are nested as deep
same-highest : (rs ss : List Record) → SameRecords rs ss → highest rs ≡ highest ss
same-highest rs ss same = sym (inner_height-held rs) ∙ (same-inner_height same ∙ inner_height-held ss)

module _ {V : Type 0} (F : Format (Vec ℕ Global)) (lawful : IsLawful F) (m : Meaning V) (eq : V → V → Bool) (v : V) (bytes : List ℕ) where
  -- an equal value is written as that spelling
  pub spelled : HasOneSpelling F m eq v bytes → (w : V) → eq w v ≡ true → (depth : ℕ) (output : Vec ℕ Global) →
      AreOctets output.items → IsWritten F (own_records m w) (m.IsOfType w) depth output → output.items ≡ bytes
  spelled one w same depth output octets written =
      one.no_other output octets (lawful.carries_in_any_order output (own_records m w) (own_records m v) (one.same_records w same) written.carried)

  -- an equal value has records that are nested as deep
  pub as_deep : HasOneSpelling F m eq v bytes → (w : V) → eq w v ≡ true → highest (own_records m w) ≡ highest (own_records m v)
  as_deep one w same = same-highest (own_records m w) (own_records m v) (one.same_records w same)

  -- and is not written only if memory runs out, or if the depth is too small
  pub not_written : HasOneSpelling F m eq v bytes → (w : V) → eq w v ≡ true → (depth : ℕ) (e : EncodeError) →
      IsNotWritten F (own_records m w) depth e → (e ≡ Memory) ⊎ ((e ≡ Depth) × (depth < highest (own_records m v)))
  not_written one w same depth Memory fails = inl refl
  not_written one w same depth Depth fails = inr (refl, omega (arith, fails.too_deep refl, as_deep one w same))
  not_written one w same depth Failed fails = absurd (fails.not_failed refl)
  not_written one w same depth (Custom text) fails =
      absurd (one.not_rejected (lawful.rejects_in_any_order (own_records m w) (own_records m v) (one.same_records w same) (fails.rejected tt)))

  -- where the depth is as large as those records need, only memory is left
  pub for_memory : HasOneSpelling F m eq v bytes → (w : V) → eq w v ≡ true → (depth : ℕ) (e : EncodeError) → highest (own_records m v) ≤ depth →
      IsNotWritten F (own_records m w) depth e → e ≡ Memory
  for_memory one w same depth e low fails = either (not_written one w same depth e fails)
    where
      either : (e ≡ Memory) ⊎ ((e ≡ Depth) × (depth < highest (own_records m v))) → e ≡ Memory
      either (inl memory) = memory
      either (inr deep) = absurd (omega (arith, low, deep.1))
