-- The work of a program on an input.
use Rattle.std.proofs.Common.{◌≡◌, ◌∙◌, ◌+◌, ℕ, Bool, true, List, [], ◌∷◌, ◌++◌, Some, None, ap, length, refl, subst, sym}
use Rattle.std.proofs.KnownBytes.{Appends-nil, Appends-trans, Consumes-kept, Consumes-nil, Consumes-trans}
use Rattle.std.specs.Io.KnownBytes.{Appends, Consumes, IsAtEnd, Keeps}
use Rattle.std.specs.Prelude.{Option, MatchOption}
use Rattle.std.specs.String.{string_bytes}
use Rattle.asn1_convert.proofs.InPieces.{nothing_waits}
use Rattle.asn1_convert.specs.Pieces.{Answers, Holds, IsRefused, Waits, unread}
use Rattle.asn1_convert.specs.Runs.{ConvertsGiven, ConvertsUpTo, EndsAt, EndsConversion, GoesOn}
use Rattle.asn1_convert.specs.SomeType.{HasNoFront}
use Rattle.asn1_convert.specs.declared.form.CodecForm.{CodecForm}
use Rattle.asn1_convert.specs.declared.form.OutputForm.{OutputForm}
use Rattle.asn1_convert.specs.declared.outcome.Outcome.{Outcome}
use Rattle.asn1_convert.specs.declared.outcome.Outcome.TheVariants.{Done, Refused, NoType, NoDigits, NotRead, NotWritten, NoMemory}
use Rattle.asn1_convert.specs.declared.pieces.Pieces.{Pieces}
use Rattle.asn1_convert.specs.declared.task.Answer.{Answer}

module _ (from : CodecForm) (to : OutputForm) (given : List ℕ) where
  -- an answer without a failure was written
  pub answer_given : (pieces : Pieces) (is_end : Bool) (answer : Answer) (first before after : Option (List ℕ)) (written : List ℕ) →
      Answers from to pieces is_end given written answer → answer.failure ≡ None → Appends first before written →
      Appends before after answer.output.items → GoesOn from to given pieces first after
  answer_given pieces is_end answer first before after written is none wrote more =
      let rest = subst (λ o. MatchOption o (HasNoFront from (unread pieces) × (is_end ≡ true → unread pieces ≡ []))
      (λ line. IsRefused from to is_end is.holds.count (length is.holds.octets) (unread pieces) (string_bytes line))) none is.rest in
      record {
        written = written ++ answer.output.items;
        waits = record { holds = is.holds; no_front = rest.0 };
        wrote = Appends-trans first before after written answer.output.items wrote more;
      }

  -- and it was the last one
  pub last_given : (pieces : Pieces) (is_end : Bool) (answer : Answer) (first before after : Option (List ℕ)) (written : List ℕ) →
      Answers from to pieces is_end given written answer → answer.failure ≡ None → is_end ≡ true → Appends first before written →
      Appends before after answer.output.items → ConvertsGiven from to given first after [] × (is_end ≡ true)
  last_given pieces is_end answer first before after written is none ended wrote more =
      let rest = subst (λ o. MatchOption o (HasNoFront from (unread pieces) × (is_end ≡ true → unread pieces ≡ []))
      (λ line. IsRefused from to is_end is.holds.count (length is.holds.octets) (unread pieces) (string_bytes line))) none is.rest in (
        record {
          octets = is.holds.octets;
          written = written ++ answer.output.items;
          count = is.holds.count;
          parts = is.holds.parts ∙ ap (λ l. is.holds.octets ++ l) (rest.1 ended);
          converted = is.holds.converted;
          wrote = Appends-trans first before after written answer.output.items wrote more;
        },
        ended,
      )

  -- an answer with a failure was written
  pub refusal_given : {S : Type 0} (line_of : S → List ℕ) (failure : Option S) (line : S) (pieces : Pieces) (is_end : Bool) (output : List ℕ)
      (first before after : Option (List ℕ)) (written : List ℕ) (holds : Holds from to pieces given (written ++ output)) →
      MatchOption failure (HasNoFront from (unread pieces) × (is_end ≡ true → unread pieces ≡ []))
      (λ l. IsRefused from to is_end holds.count (length holds.octets) (unread pieces) (line_of l)) →
      failure ≡ Some line → Appends first before written → Appends before after output → ConvertsUpTo from to given is_end first after (line_of line)
  refusal_given line_of failure line pieces is_end output first before after written holds rest some wrote more = record {
    left = unread pieces;
    converts = record {
      octets = holds.octets;
      written = written ++ output;
      count = holds.count;
      parts = holds.parts;
      converted = holds.converted;
      wrote = Appends-trans first before after written output wrote more;
    };
    refused = subst (λ o. MatchOption o (HasNoFront from (unread pieces) × (is_end ≡ true → unread pieces ≡ []))
        (λ l. IsRefused from to is_end holds.count (length holds.octets) (unread pieces) (line_of l))) some rest;
  }

module _ (from : CodecForm) (to : OutputForm) where
  -- All that was read of an input was converted, but for octets with which no whole value begins.
  pub record ReadUpTo (read_old read_new : Option (List ℕ)) (pieces : Pieces) (before after : Option (List ℕ)) : Type 0 where
    pub given : List ℕ
    pub took : Consumes read_old read_new given
    pub goes_on : GoesOn from to given pieces before after

  -- nothing was read yet
  pub read_nothing : (r w : Option (List ℕ)) (pieces : Pieces) → Holds from to pieces [] [] → ReadUpTo r r pieces w w
  read_nothing r w pieces holds = record {
    given = [];
    took = Consumes-nil r;
    goes_on = record {
      written = [];
      waits = record { holds = holds; no_front = nothing_waits from (unread pieces) (nothing_left holds.octets (unread pieces) (sym holds.parts)) };
      wrote = Appends-nil w;
    };
  }
    where
      nothing_left : (octets left : List ℕ) → octets ++ left ≡ [] → left ≡ []
      nothing_left [] left is = is
      nothing_left (x ∷ octets) left is = cc

  -- a read gave a piece
  pub read_more : (r mid_r new_r w before after : Option (List ℕ)) (old new : Pieces) (piece : List ℕ) (so_far : ReadUpTo r mid_r old w before) →
      Consumes mid_r new_r piece → GoesOn from to (so_far.given ++ piece) new w after → ReadUpTo r new_r new w after
  read_more r mid_r new_r w before after old new piece so_far took goes_on = record {
    given = so_far.given ++ piece;
    took = Consumes-trans r mid_r new_r so_far.given piece so_far.took took;
    goes_on = goes_on;
  }

  -- the conversion of an input ends as that of what was read
  pub ends : (outcome : Outcome) (r mid_r new_r w before after : Option (List ℕ)) (old : Pieces) (piece : List ℕ) (is_end : Bool)
      (so_far : ReadUpTo r mid_r old w before) → Consumes mid_r new_r piece → (is_end ≡ true → IsAtEnd new_r) →
      EndsAt from to (so_far.given ++ piece) is_end w after outcome → EndsConversion from to r new_r w after outcome
  ends Done r mid_r new_r w before after old piece is_end so_far took ended is = record {
    given = so_far.given ++ piece;
    took = Consumes-trans r mid_r new_r so_far.given piece so_far.took took;
    ended = ended is.1;
    converts = is.0;
  }
  ends (Refused line) r mid_r new_r w before after old piece is_end so_far took ended is = record {
    given = so_far.given ++ piece;
    took = Consumes-trans r mid_r new_r so_far.given piece so_far.took took;
    is_end = is_end;
    ended = ended;
    converts = is;
  }
  ends NoType r mid_r new_r w before after old piece is_end so_far took ended is = tt
  ends (NoDigits position) r mid_r new_r w before after old piece is_end so_far took ended is = absurd is
  ends NotRead r mid_r new_r w before after old piece is_end so_far took ended is = absurd is
  ends NotWritten r mid_r new_r w before after old piece is_end so_far took ended is = tt
  ends NoMemory r mid_r new_r w before after old piece is_end so_far took ended is = tt

  -- reading failed, which takes nothing
  pub fails : (r mid_r new_r w after : Option (List ℕ)) (pieces : Pieces) → ReadUpTo r mid_r pieces w after → Keeps mid_r new_r →
      EndsConversion from to r new_r w after NotRead
  fails r mid_r new_r w after pieces so_far kept =
      let holds = so_far.goes_on.waits.holds in
      record {
        given = so_far.given;
        took = Consumes-kept r mid_r new_r so_far.given so_far.took kept;
        left = unread pieces;
        converts = record {
          octets = holds.octets;
          written = so_far.goes_on.written;
          count = holds.count;
          parts = holds.parts;
          converted = holds.converted;
          wrote = so_far.goes_on.wrote;
        };
        no_front = so_far.goes_on.waits.no_front;
      }
