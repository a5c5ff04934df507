-- Conversions and answers, whatever the type is.
use Rattle.std.proofs.Common.{◌≡◌, ◌∙◌, ◌+◌, ℕ, suc, Bool, List, [], ◌++◌, Some, None, Result, Ok, Err, ap, append_assoc, append-nil, arith, length, length-append, refl, subst, sym}
use Rattle.std.specs.Prelude.{Option, MatchOption, IfNone, IfOk, Vec}
use Rattle.std.specs.declared.alloc.Global.{Global}
use Rattle.asn1_certificate_rules.specs.Departures.{KeepsRules}
use Rattle.asn1_certificate_rules.specs.declared.notation.Part.TheVariants as part
use Rattle.asn1_certificate_rules.specs.declared.rule.RuleSet.TheVariants as rules
use Rattle.asn1_laws.specs.Refusals.{Refusals}
use Rattle.asn1_model.specs.Meaning.{Meaning}
use Rattle.asn1_convert.specs.Answers.{IsAnswer, IsStopped, IsWhole}
use Rattle.asn1_convert.specs.Checks.{AreDer}
use Rattle.asn1_convert.specs.Conversions.{Converts, HaveConverted, IsCause}
use Rattle.asn1_convert.specs.Conversions as conversions
use Rattle.asn1_convert.specs.Forms.{IsFront}
use Rattle.asn1_convert.specs.SomeType.{AreConverted, ConvertsSome, IsAnswerOfSomeType, IsCauseAt, IsPiece, IsToTheEnd, StopsAt, none, one_more}
use Rattle.asn1_convert.specs.declared.form.CodecForm.{CodecForm}
use Rattle.asn1_convert.specs.declared.form.OutputForm.{OutputForm}
use Rattle.asn1_convert.specs.declared.form.OutputForm.TheVariants.{Codec, Notation, Json}
use Rattle.asn1_convert.specs.declared.stream.Cause.{Cause}
use Rattle.asn1_convert.specs.declared.stream.Cause.TheVariants.{NoFront, NotRecoded, Memory}
use Rattle.asn1_convert.specs.declared.task.Action.{Action}
use Rattle.asn1_convert.specs.declared.task.Action.TheVariants.{Convert, Check}
use Rattle.asn1_convert.specs.declared.task.Answer.{Answer}
use Rattle.asn1_convert.specs.declared.task.Converted.{Converted}

-- The octets that were converted of an input, before those that are left.
record Parts (from : CodecForm) (to : OutputForm) (input left written : List ℕ) (count : ℕ) : Type 0 where
  octets : List ℕ
  parts : input ≡ octets ++ left
  converted : AreConverted from to octets written count

-- what `ConvertsSome` says, of an answer whose failure has this line
record Rest {S : Type 0} (line_of : S → List ℕ) (failure : Option S) (before : Converted) (from : CodecForm) (to : OutputForm) (input : List ℕ)
    (answer : Answer) : Type 0 where
  octets : List ℕ
  left : List ℕ
  parts : input ≡ octets ++ left
  converted : AreConverted from to octets answer.output.items answer.converted.values
  long : answer.converted.octets ≡ length octets
  rest : MatchOption failure (IsToTheEnd answer left) (λ line. StopsAt before from answer left (line_of line))

module _ {V : Type 0} (m : Meaning V) (eq : V → V → Bool) (refusals : Refusals) (depth : ℕ) where
  piece_of : (from : CodecForm) (to : OutputForm) (octets : List ℕ) (piece : Vec ℕ Global) → Converts m eq refusals depth from octets to (Ok piece) →
      IsPiece to piece.items
  piece_of from (Codec to) octets piece is = tt
  piece_of from Notation octets piece is = tt
  piece_of from Json octets piece is = is.1

  parts_of : (from : CodecForm) (to : OutputForm) (input left written : List ℕ) (count : ℕ) →
      HaveConverted m eq refusals depth from to input left written count → Parts from to input left written count
  parts_of from to input _ _ _ conversions.none = record { octets = []; parts = refl; converted = none }
  parts_of from to input _ _ _ (conversions.one_more {left = left} {behind = behind} {written = written} {more = more} {count = count} before has) =
      let p = parts_of from to input left written count before in
      let own = has.octets in
      record {
        octets = p.octets ++ own;
        parts = p.parts ∙ ap (λ l. p.octets ++ l) has.parts ∙ sym (append_assoc p.octets own behind);
        converted = subst (λ l. AreConverted from to (p.octets ++ own) l (suc count)) (sym has.value.appended)
            (one_more own behind has.value.piece.items p.converted (subst (λ l. IsFront from l (length own)) has.parts has.front)
            (piece_of from to own has.value.piece has.value.converted));
      }

  cause_at : (from : CodecForm) (to : OutputForm) (left : List ℕ) (cause : Cause) → IsCause m eq refusals depth from to left cause → IsCauseAt from left cause
  cause_at from to left (NoFront e) is = is
  cause_at from to left (NotRecoded e) is = (length is.octets, is.front)
  cause_at from to left Memory is = (length is.octets, is.front)

  rest_of : {S : Type 0} (line_of : S → List ℕ) (failure : Option S) (before : Converted) (from : CodecForm) (to : OutputForm) (input : Vec ℕ Global)
      (answer : Answer) → MatchOption failure (IsWhole m eq refusals depth input from to answer)
      (λ line. IsStopped m eq refusals depth input before from to answer (line_of line)) → Rest line_of failure before from to input.items answer
  rest_of line_of None before from to input answer whole =
      let p = parts_of from to input.items [] answer.output.items answer.converted.values whole.converted in
      record {
        octets = p.octets;
        left = [];
        parts = p.parts;
        converted = p.converted;
        long = whole.octets ∙ ap length (p.parts ∙ append-nil p.octets);
        rest = record { none_left = refl; missing = whole.missing };
      }
  rest_of line_of (Some line) before from to input answer stopped =
      let stop = stopped.stop in
      let s = stopped.stopped in
      let p = parts_of from to input.items s.left answer.output.items stop.before s.converted in
      record {
        octets = p.octets;
        left = s.left;
        parts = p.parts;
        converted = subst (λ n. AreConverted from to p.octets answer.output.items n) (sym stopped.values) p.converted;
        long = omega (arith, s.start, ap length p.parts, length-append p.octets s.left, stopped.octets);
        rest = record {
          stop = stop;
          values = stopped.values;
          octets = stopped.octets;
          cause = cause_at from to s.left stop.cause s.cause;
          missing = stopped.missing;
          tells = stopped.tells;
        };
      }

  keeps_rules : {S : Type 0} (failure : Option S) (P : S → Type 0) (input : Vec ℕ Global) →
      MatchOption failure (AreDer m eq refusals depth input) P → IfNone failure (KeepsRules rules.OfReading part.Other input.items)
  keeps_rules None P input is = is.keep_rules
  keeps_rules (Some line) P input is = tt

  -- an answer for a type is one for some type
  pub of_some_type : (action : Action) (before : Converted) (input : Vec ℕ Global) (answer : Answer) →
      IsAnswer m eq refusals depth input before action answer → IsAnswerOfSomeType input.items before action answer
  of_some_type (Convert from to) before input answer is =
      let r = rest_of _ answer.failure before from to input answer is in
      record { octets = r.octets; left = r.left; parts = r.parts; converted = r.converted; long = r.long; rest = r.rest }
  of_some_type Check before input answer is = record {
    keep_rules = keeps_rules answer.failure _ input is.verdict;
    output = is.output;
    values = is.values;
    octets = is.octets;
    missing = is.missing;
  }

  pub if_some_type : {E : Type 0} (result : Result Answer E) (action : Action) (before : Converted) (input : Vec ℕ Global) →
      IfOk result (IsAnswer m eq refusals depth input before action) → IfOk result (IsAnswerOfSomeType input.items before action)
  if_some_type (Ok answer) action before input is = of_some_type action before input answer is
  if_some_type (Err e) action before input is = tt
