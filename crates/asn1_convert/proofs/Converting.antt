-- The front of an input, converted.
use Rattle.std.proofs.Common.{◌≡◌, ◌<◌, ◌≤◌, ◌+◌, ◌⊎◌, ℕ, zero, suc, Bool, List, [], ◌∷◌, ◌++◌, Some, ap, length, length-append, arith, refl, subst, sym}
use Rattle.asn1_ber.proofs.Cuts as ber
use Rattle.asn1_bench.specs.Fronts as packed
use Rattle.asn1_items.proofs.Items.{header_read}
use Rattle.asn1_items.specs.Headers.{Header, header_at}
use Rattle.asn1_der_items.proofs.TrailingBytes.{element_at-shorter}
use Rattle.asn1_laws.specs.Refusals.{Refusals}
use Rattle.asn1_model.specs.Meaning.{Meaning}
use Rattle.asn1_convert.specs.Conversions.{HasConverted, HasNotConverted, IsCause, IsValueCause}
use Rattle.asn1_convert.specs.Forms.{IsFront}
use Rattle.asn1_convert.specs.declared.form.CodecForm.{CodecForm}
use Rattle.asn1_convert.specs.declared.form.CodecForm.TheVariants.{Der, Ber, Packed}
use Rattle.asn1_convert.specs.declared.form.OutputForm.{OutputForm}
use Rattle.asn1_convert.specs.declared.stream.Cause.{Cause}
use Rattle.asn1_convert.specs.declared.stream.Cause.TheVariants.{NoFront, NotRecoded, Memory}

-- an item has octets
packed_has_octets : (octets : List ℕ) (n : ℕ) → packed.IsCut octets n → 0 < n
packed_has_octets octets n cut =
    let r = header_read octets cut.header cut.at in
    by r.front (r.whatever []) (omega (arith, cut.long, ap length r.are, length-append r.front cut.header.body))
  where
    by : (front : List ℕ) {o : Header} → header_at (front ++ []) ≡ Some o → length front ≤ n → 0 < n
    by [] found within = cc
    by (x ∷ xs) found within = omega (arith, within)

-- a value has octets
pub front_has_octets : (form : CodecForm) (octets : List ℕ) (n : ℕ) → IsFront form octets n → 0 < n
front_has_octets Der octets n cut = omega (arith, cut.long, element_at-shorter octets cut.element cut.at)
front_has_octets Ber octets zero cut = absurd (ber.no_empty_cut octets cut)
front_has_octets Ber octets (suc n) cut = omega arith
front_has_octets Packed octets n cut = packed_has_octets octets n cut

module _ {V : Type 0} (m : Meaning V) (eq : V → V → Bool) (refusals : Refusals) (depth : ℕ) (from : CodecForm) (to : OutputForm) where
  -- less is left of an input
  pub less_left : {input old left new : List ℕ} → HasConverted m eq refusals depth from to input old left new → length left < length input
  less_left {input = input} {left = left} has =
      omega (arith, front_has_octets from input (length has.octets) has.front, length-append has.octets left, subst (λ l. length input ≡ length l) has.parts refl)

  -- why the front was not converted
  pub not_converted : (input : List ℕ) (octets left : List ℕ) (cause : Cause) → input ≡ octets ++ left → IsFront from input (length octets) →
      IsValueCause m eq refusals depth from to octets cause → IsCause m eq refusals depth from to input cause
  not_converted input octets left (NoFront e) parts front value = absurd value
  not_converted input octets left (NotRecoded e) parts front value = record { octets = octets; left = left; parts = parts; front = front; value = value }
  not_converted input octets left Memory parts front value = record { octets = octets; left = left; parts = parts; front = front; value = value }
