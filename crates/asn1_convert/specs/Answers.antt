-- The answers to the work of a program on octets.
use Rattle.std.specs.Prelude.{◌≡◌, ℕ, Bool, List, [], length, MatchOption, Option, Some, None, Vec}
use Rattle.std.specs.String.{string_bytes}
use Rattle.std.specs.declared.alloc.Global.{Global}
use Rattle.asn1_items.specs.declared.error.ItemError.TheVariants.{Missing}
use Rattle.asn1_laws.specs.Refusals.{Refusals}
use Rattle.asn1_model.specs.Meaning.{Meaning}
use Rattle.asn1_convert.specs.Checks.{AreDer, AreRefused}
use Rattle.asn1_convert.specs.Conversions.{HaveConverted, IsStop}
use Rattle.asn1_convert.specs.Lines.{IsLineOf}
use Rattle.asn1_convert.specs.declared.form.CodecForm.{CodecForm}
use Rattle.asn1_convert.specs.declared.form.OutputForm.{OutputForm}
use Rattle.asn1_convert.specs.declared.stream.Cause.{Cause}
use Rattle.asn1_convert.specs.declared.stream.Cause.TheVariants.{NoFront}
use Rattle.asn1_convert.specs.declared.stream.Stop.{Stop}
use Rattle.asn1_convert.specs.declared.task.Action.{Action}
use Rattle.asn1_convert.specs.declared.task.Action.TheVariants.{Convert, Check}
use Rattle.asn1_convert.specs.declared.task.Answer.{Answer}
use Rattle.asn1_convert.specs.declared.task.Converted.{Converted}

-- how many octets a value lacks at least that was not converted for this cause, if the input ends inside it
abbrev pub missing_octets : Cause → Option ℕ
missing_octets (NoFront (Missing count)) = Some count
missing_octets _ = None

module _ {V : Type 0} (m : Meaning V) (eq : V → V → Bool) (refusals : Refusals) (depth : ℕ) (input : Vec ℕ Global) where
  -- All values of the input were converted: the output has each, once and in order.
  pub record IsWhole (from : CodecForm) (to : OutputForm) (answer : Answer) : Type 0 where
    pub converted : HaveConverted m eq refusals depth from to input.items [] answer.output.items answer.converted.values
    pub octets : answer.converted.octets ≡ length input.items
    pub missing : answer.missing ≡ None

  -- The values before a stop were, and the one that begins there was not, for its cause. A line says which one.
  pub record IsStopped (before : Converted) (from : CodecForm) (to : OutputForm) (answer : Answer) (line : List ℕ) : Type 0 where
    pub stop : Stop
    pub stopped : IsStop m eq refusals depth from to input.items answer.output.items stop
    pub values : answer.converted.values ≡ stop.before
    pub octets : answer.converted.octets ≡ stop.start
    pub missing : answer.missing ≡ missing_octets stop.cause
    pub tells : IsLineOf before stop line

  -- A conversion, which has a failure exactly if it was stopped.
  abbrev pub IsConversion : Converted → CodecForm → OutputForm → Answer → Type 0
  IsConversion before from to answer =
      MatchOption answer.failure (IsWhole from to answer) (λ line. IsStopped before from to answer (string_bytes line))

  -- The input is the DER of a value, or there is a failure. Nothing is written, and nothing counts as converted.
  pub record IsVerdict (answer : Answer) : Type 0 where
    pub verdict : MatchOption answer.failure (AreDer m eq refusals depth input) (λ line. AreRefused m eq refusals depth input)
    pub output : answer.output.items ≡ []
    pub values : answer.converted.values ≡ 0
    pub octets : answer.converted.octets ≡ 0
    pub missing : answer.missing ≡ None

  -- The answer to each kind of work, behind what was converted before.
  abbrev pub IsAnswer : Converted → Action → Answer → Type 0
  IsAnswer before (Convert from to) answer = IsConversion before from to answer
  IsAnswer before Check answer = IsVerdict answer
