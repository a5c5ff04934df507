-- Conversions and answers, whatever the type is.
use Rattle.std.specs.Prelude.{◌≡◌, ℕ, suc, ⊤, List, [], ◌++◌, length, None, IfNone, MatchOption}
use Rattle.std.specs.String.{string_bytes}
use Rattle.asn1_certificate_rules.specs.Departures.{KeepsRules}
use Rattle.asn1_certificate_rules.specs.declared.notation.Part.TheVariants as part
use Rattle.asn1_certificate_rules.specs.declared.rule.RuleSet.TheVariants as rules
use Rattle.asn1_items.specs.declared.error.ItemError.TheVariants as item_error
use Rattle.asn1_convert.specs.Answers.{missing_octets}
use Rattle.asn1_convert.specs.Conversions.{IsLineOfDocument}
use Rattle.asn1_convert.specs.Forms.{IsFront}
use Rattle.asn1_convert.specs.Lines.{IsLineOf}
use Rattle.asn1_convert.specs.declared.form.CodecForm.{CodecForm}
use Rattle.asn1_convert.specs.declared.form.OutputForm.{OutputForm}
use Rattle.asn1_convert.specs.declared.form.OutputForm.TheVariants.{Codec, Notation, Json}
use Rattle.asn1_convert.specs.declared.stream.Cause.{Cause}
use Rattle.asn1_convert.specs.declared.stream.Cause.TheVariants.{NoFront, NotRecoded, Memory}
use Rattle.asn1_convert.specs.declared.stream.Stop.{Stop}
use Rattle.asn1_convert.specs.declared.task.Action.{Action}
use Rattle.asn1_convert.specs.declared.task.Action.TheVariants.{Convert, Check}
use Rattle.asn1_convert.specs.declared.task.Answer.{Answer}
use Rattle.asn1_convert.specs.declared.task.Converted.{Converted}

-- what is written of a value: as JSON a line with one document
abbrev pub IsPiece : OutputForm → List ℕ → Type 0
IsPiece (Codec to) piece = ⊤
IsPiece Notation piece = ⊤
IsPiece Json piece = IsLineOfDocument piece

-- Values were converted, one after another: these are their octets, this was written, and this is their number. The octets of each are
-- a front, with those that had come behind it.
pub data AreConverted (from : CodecForm) (to : OutputForm) : List ℕ → List ℕ → ℕ → Type 0 where
  none : AreConverted from to [] [] 0
  one_more : {octets written : List ℕ} {count : ℕ} (own behind piece : List ℕ) → AreConverted from to octets written count →
      IsFront from (own ++ behind) (length own) → IsPiece to piece → AreConverted from to (octets ++ own) (written ++ piece) (suc count)

-- The octets begin with no value.
abbrev pub HasNoFront : CodecForm → List ℕ → Type 0
HasNoFront from octets = (n : ℕ) → IsFront from octets n → ⊥

-- Why the first value of these octets was not converted: they begin with none, unless memory ran out; or it was refused, or memory ran
-- out.
abbrev pub IsCauseAt : CodecForm → List ℕ → Cause → Type 0
IsCauseAt from octets (NoFront e) = (n : ℕ) → IsFront from octets n → e ≡ item_error.Memory
IsCauseAt from octets (NotRecoded e) = (n : ℕ) × IsFront from octets n
IsCauseAt from octets Memory = (n : ℕ) × IsFront from octets n

-- The line names the value with which these octets begin, which was not converted, by what was converted before it.
pub record StopsAt (before : Converted) (from : CodecForm) (answer : Answer) (left line : List ℕ) : Type 0 where
  pub stop : Stop
  pub values : answer.converted.values ≡ stop.before
  pub octets : answer.converted.octets ≡ stop.start
  pub cause : IsCauseAt from left stop.cause
  pub missing : answer.missing ≡ missing_octets stop.cause
  pub tells : IsLineOf before stop line

-- All of an input was converted.
pub record IsToTheEnd (answer : Answer) (left : List ℕ) : Type 0 where
  pub none_left : left ≡ []
  pub missing : answer.missing ≡ None

-- Values of the input were converted up to its end, or up to one that a line names.
pub record ConvertsSome (before : Converted) (from : CodecForm) (to : OutputForm) (input : List ℕ) (answer : Answer) : Type 0 where
  pub octets : List ℕ
  pub left : List ℕ
  pub parts : input ≡ octets ++ left
  pub converted : AreConverted from to octets answer.output.items answer.converted.values
  pub long : answer.converted.octets ≡ length octets
  pub rest : MatchOption answer.failure (IsToTheEnd answer left) (λ line. StopsAt before from answer left (string_bytes line))

-- Nothing is written, and nothing counts as converted. Without a failure the input breaks no rule of X.690 that reading asks for.
pub record ChecksSome (input : List ℕ) (answer : Answer) : Type 0 where
  pub keep_rules : IfNone answer.failure (KeepsRules rules.OfReading part.Other input)
  pub output : answer.output.items ≡ []
  pub values : answer.converted.values ≡ 0
  pub octets : answer.converted.octets ≡ 0
  pub missing : answer.missing ≡ None

-- the answer to each kind of work, for some type
abbrev pub IsAnswerOfSomeType : List ℕ → Converted → Action → Answer → Type 0
IsAnswerOfSomeType input before (Convert from to) answer = ConvertsSome before from to input answer
IsAnswerOfSomeType input before Check answer = ChecksSome input answer
