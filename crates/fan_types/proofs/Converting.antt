-- Octets that were converted.
use Rattle.std.proofs.Common.{◌≡◌, ℕ, Bool, List, Ok, refl, subst}
use Rattle.std.specs.Prelude.{Vec}
use Rattle.std.specs.declared.alloc.Global.{Global}
use Rattle.asn1_convert.specs.Conversions.{Converts}
use Rattle.asn1_convert.specs.declared.form.CodecForm.TheVariants.{Ber}
use Rattle.asn1_convert.specs.declared.form.OutputForm.{OutputForm}
use Rattle.asn1_laws.specs.Refusals.{Refusals}
use Rattle.asn1_model.specs.Meaning.{Meaning}
use Rattle.fan_calls.specs.Results.{HasNoRoom, IsPut, LacksRoom, Puts}
use Rattle.fan_types.specs.Conversions.{IsConversion}

module _ {V : Type 0} (m : Meaning V) (eq : V → V → Bool) (refusals : Refusals) (to : OutputForm) (own octets : List ℕ) (same : own ≡ octets) where
  module _ (output : Vec ℕ Global) (converted : Converts m eq refusals 64 Ber own to (Ok output)) where
    is_conversion : IsConversion m eq refusals to octets output.items
    is_conversion = record { output = output; are = refl; converted = subst (λ l. Converts m eq refusals 64 Ber l to (Ok output)) same converted }

    -- what was written fits
    pub puts : {old new : List ℕ} {size : ℕ} → IsPut output.items old new size → Puts (IsConversion m eq refusals to octets) old new size
    puts put = record { octets = output.items; is = is_conversion; put = put }

    -- or not
    pub lacks_room : {old new : List ℕ} {size : ℕ} → HasNoRoom output.items old new size → LacksRoom (IsConversion m eq refusals to octets) old new size
    lacks_room no_room = record { octets = output.items; is = is_conversion; no_room = no_room }
