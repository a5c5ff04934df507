-- Octets of BER in another form.
use Rattle.std.specs.Prelude.{◌≡◌, ℕ, Bool, List, Ok, Err, Vec}
use Rattle.std.specs.declared.alloc.Global.{Global}
use Rattle.asn1_convert.specs.Conversions.{Converts}
use Rattle.asn1_convert.specs.declared.form.CodecForm.TheVariants.{Ber, Der}
use Rattle.asn1_convert.specs.declared.form.OutputForm.{OutputForm}
use Rattle.asn1_convert.specs.declared.form.OutputForm.TheVariants.{Codec, Json, Notation}
use Rattle.asn1_laws.specs.Refusals.{Refusals}
use Rattle.asn1_model.specs.Meaning.{Meaning}
use Rattle.asn1_rules.specs.declared.recoding.RecodeError.{RecodeError}
use Rattle.fan_calls.specs.declared.status.Status.{Status}
use Rattle.fan_types.specs.Refusals.{status_of_recoding}

-- the forms in which a value is written: DER, X.680's notation of values, and JSON (X.697)
abbrev pub as_der : OutputForm
as_der = Codec Der

abbrev pub as_text : OutputForm
as_text = Notation

abbrev pub as_json : OutputForm
as_json = Json

module _ {V : Type 0} (m : Meaning V) (eq : V → V → Bool) (refusals : Refusals) (to : OutputForm) (octets : List ℕ) where
  -- Reading the octets by BER and writing the value in the other form may make these, with at most 64 nested scopes. If the octets
  -- are the BER of a valid value, these are the DER of one that is equal, or a line with one document of JSON; a text in X.680's
  -- notation may be any.
  pub record IsConversion (written : List ℕ) : Type 0 where
    pub output : Vec ℕ Global
    pub are : output.items ≡ written
    pub converted : Converts m eq refusals 64 Ber octets to (Ok output)

  -- It may fail for an error of this status.
  pub record IsNotConverted (status : Status) : Type 0 where
    pub error : RecodeError
    pub refused : Converts m eq refusals 64 Ber octets to (Err error)
    pub is : status_of_recoding error ≡ status
