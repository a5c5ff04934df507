-- The work of a program on an input, and its end.
use Rattle.std.specs.Prelude.{◌≡◌, ℕ, ⊤, Bool, true, false, List, [], ◌++◌, length, Option, None, Some, Vec}
use Rattle.std.specs.Io.KnownBytes.{Appends, Consumes, IsAtEnd}
use Rattle.std.specs.String.{string_bytes}
use Rattle.asn1_convert.specs.Digits.{AreDigitsOf, IsFirstFault}
use Rattle.asn1_convert.specs.Pieces.{IsRefused, Waits}
use Rattle.asn1_convert.specs.SomeType.{AreConverted, HasNoFront, IsAnswerOfSomeType}
use Rattle.asn1_convert.specs.declared.form.CodecForm.{CodecForm}
use Rattle.asn1_convert.specs.declared.form.OutputForm.{OutputForm}
use Rattle.asn1_convert.specs.declared.outcome.Outcome.{Outcome}
use Rattle.asn1_convert.specs.declared.outcome.Outcome.TheVariants.{Done, Refused, NoType, NoDigits, NotRead, NotWritten, NoMemory}
use Rattle.asn1_convert.specs.declared.pieces.Pieces.{Pieces}
use Rattle.asn1_convert.specs.declared.task.Action.{Action}
use Rattle.asn1_convert.specs.declared.task.Answer.{Answer}
use Rattle.asn1_convert.specs.declared.task.Converted.{Converted}

-- 0 if all was done, 1 if a value was refused, and else 2
abbrev pub status_of : Outcome → ℕ
status_of Done = 0
status_of (Refused line) = 1
status_of NoType = 2
status_of (NoDigits position) = 2
status_of NotRead = 2
status_of NotWritten = 2
status_of NoMemory = 2

module _ (from : CodecForm) (to : OutputForm) (given : List ℕ) where
  -- Values of the given octets were converted and written, and these are left.
  pub record ConvertsGiven (before after : Option (List ℕ)) (left : List ℕ) : Type 0 where
    pub octets : List ℕ
    pub written : List ℕ
    pub count : ℕ
    pub parts : given ≡ octets ++ left
    pub converted : AreConverted from to octets written count
    pub wrote : Appends before after written

  -- All of the given octets were converted that are whole values.
  pub record GoesOn (pieces : Pieces) (before after : Option (List ℕ)) : Type 0 where
    pub written : List ℕ
    pub waits : Waits from to pieces given written
    pub wrote : Appends before after written

  -- The values before the one that a line names were converted.
  pub record ConvertsUpTo (is_end : Bool) (before after : Option (List ℕ)) (line : List ℕ) : Type 0 where
    pub left : List ℕ
    pub converts : ConvertsGiven before after left
    pub refused : IsRefused from to is_end converts.count (length converts.octets) left line

  -- How the conversion of the given octets ends.
  abbrev pub EndsAt : Bool → Option (List ℕ) → Option (List ℕ) → Outcome → Type 0
  EndsAt is_end before after Done = ConvertsGiven before after [] × (is_end ≡ true)
  EndsAt is_end before after (Refused line) = ConvertsUpTo is_end before after (string_bytes line)
  EndsAt is_end before after NoType = ⊤
  EndsAt is_end before after (NoDigits position) = ⊥
  EndsAt is_end before after NotRead = ⊥
  EndsAt is_end before after NotWritten = ⊤
  EndsAt is_end before after NoMemory = ⊤

module _ (from : CodecForm) (to : OutputForm) (read_old read_new before after : Option (List ℕ)) where
  -- The whole input was read and converted.
  pub record ConvertsAll : Type 0 where
    pub given : List ℕ
    pub took : Consumes read_old read_new given
    pub ended : IsAtEnd read_new
    pub converts : ConvertsGiven from to given before after []

  -- The input was converted up to the value that a line names.
  pub record StopsConversion (line : List ℕ) : Type 0 where
    pub given : List ℕ
    pub took : Consumes read_old read_new given
    pub is_end : Bool
    pub ended : is_end ≡ true → IsAtEnd read_new
    pub converts : ConvertsUpTo from to given is_end before after line

  -- Reading failed: what came before that was converted, up to a value that is not whole.
  pub record ConvertsWhole : Type 0 where
    pub given : List ℕ
    pub took : Consumes read_old read_new given
    pub left : List ℕ
    pub converts : ConvertsGiven from to given before after left
    pub no_front : HasNoFront from left

  -- How the conversion of an input ends. No contract covers what is written if no type has the name, writing fails or memory runs out.
  abbrev pub EndsConversion : Outcome → Type 0
  EndsConversion Done = ConvertsAll
  EndsConversion (Refused line) = StopsConversion (string_bytes line)
  EndsConversion NoType = ⊤
  EndsConversion (NoDigits position) = ⊥
  EndsConversion NotRead = ConvertsWhole
  EndsConversion NotWritten = ⊤
  EndsConversion NoMemory = ⊤

-- nothing was converted before
abbrev pub nothing_before : Converted
nothing_before = record { values = 0; octets = 0 }

-- the octets of an input, which it has as such, or as hexadecimal digits
abbrev pub AreOctetsOf : Bool → List ℕ → List ℕ → Type 0
AreOctetsOf true octets input = AreDigitsOf octets input
AreOctetsOf false octets input = octets ≡ input

-- The output of an answer was written, and the outcome is its failure, if it has one; or writing failed.
abbrev pub IsGiven : Answer → Option (List ℕ) → Option (List ℕ) → Outcome → Type 0
IsGiven answer before after Done = Appends before after answer.output.items × (answer.failure ≡ None)
IsGiven answer before after (Refused line) = Appends before after answer.output.items × (answer.failure ≡ Some line)
IsGiven answer before after NoType = ⊥
IsGiven answer before after (NoDigits position) = ⊥
IsGiven answer before after NotRead = ⊥
IsGiven answer before after NotWritten = ⊤
IsGiven answer before after NoMemory = ⊥

module _ (action : Action) (is_hexadecimal : Bool) (read_old read_new before after : Option (List ℕ)) where
  -- The input was read to its end, and the answer for its octets was written.
  pub record AnswersInput (outcome : Outcome) : Type 0 where
    pub input : List ℕ
    pub took : Consumes read_old read_new input
    pub ended : IsAtEnd read_new
    pub octets : List ℕ
    pub are : AreOctetsOf is_hexadecimal octets input
    pub answer : Answer
    pub answers : IsAnswerOfSomeType octets nothing_before action answer
    pub given : IsGiven answer before after outcome

  -- The input is no digits, and this is the first position at which that shows.
  pub record HasNoDigits (position : ℕ) : Type 0 where
    pub input : List ℕ
    pub took : Consumes read_old read_new input
    pub ended : IsAtEnd read_new
    pub asked : is_hexadecimal ≡ true
    pub fault : IsFirstFault input position

  -- How work on a whole input ends. No contract covers what is written if no type has the name, reading or writing fails, or memory
  -- runs out.
  abbrev pub EndsWork : Outcome → Type 0
  EndsWork Done = AnswersInput Done
  EndsWork (Refused line) = AnswersInput (Refused line)
  EndsWork (NoDigits position) = HasNoDigits position
  EndsWork NoType = ⊤
  EndsWork NotRead = ⊤
  EndsWork NotWritten = ⊤
  EndsWork NoMemory = ⊤
