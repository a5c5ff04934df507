-- Inputs that come in pieces.
use Rattle.std.specs.Prelude.{◌≡◌, ℕ, Bool, true, List, [], ◌∷◌, ◌++◌, length, Option, Some, MatchOption}
use Rattle.std.specs.String.{string_bytes}
use Rattle.asn1_ber_items.specs.Progress.{HasCome}
use Rattle.asn1_items.specs.declared.error.ItemError.TheVariants.{Missing}
use Rattle.asn1_convert.specs.Lines.{place_text, sum_within}
use Rattle.asn1_convert.specs.SomeType.{AreConverted, HasNoFront, IsCauseAt}
use Rattle.asn1_convert.specs.declared.form.CodecForm.{CodecForm}
use Rattle.asn1_convert.specs.declared.form.OutputForm.{OutputForm}
use Rattle.asn1_convert.specs.declared.pieces.Pieces.{Pieces}
use Rattle.asn1_convert.specs.declared.stream.Cause.{Cause}
use Rattle.asn1_convert.specs.declared.stream.Cause.TheVariants.{NoFront}
use Rattle.asn1_convert.specs.declared.task.Answer.{Answer}

-- the octets that came and were not converted
abbrev pub unread : Pieces → List ℕ
unread pieces = pieces.octets.items

-- The line begins with the number of a value, and with its first octet.
pub record IsLineAt (number first : ℕ) (line : List ℕ) : Type 0 where
  pub last : Option ℕ
  pub cause : List ℕ
  pub are : line ≡ place_text number first last ++ (cause ++ 10 ∷ [])

module _ (from : CodecForm) (to : OutputForm) where
  -- Values were converted of the octets that were given, and this was written of them. The others are unread.
  pub record Holds (pieces : Pieces) (given written : List ℕ) : Type 0 where
    pub octets : List ℕ
    pub count : ℕ
    pub converted : AreConverted from to octets written count
    pub parts : given ≡ octets ++ unread pieces
    pub values : pieces.before.values ≡ sum_within 0 count
    pub position : pieces.before.octets ≡ sum_within 0 (length octets)
    pub reads : pieces.from ≡ from
    pub writes : pieces.to ≡ to
    pub searched : ∥ HasCome pieces.search (unread pieces) ∥₁

  -- No value is whole of those that are unread.
  pub record Waits (pieces : Pieces) (given written : List ℕ) : Type 0 where
    pub holds : Holds pieces given written
    pub no_front : HasNoFront from (unread pieces)

  -- The value that begins here was not converted, as a line says: it is behind this many values and octets. That the octets end inside
  -- it is a cause at the end alone.
  pub record IsRefused (is_end : Bool) (count first : ℕ) (left line : List ℕ) : Type 0 where
    pub cause : Cause
    pub because : IsCauseAt from left cause
    pub at_end : (missing : ℕ) → cause ≡ NoFront (Missing missing) → is_end ≡ true
    pub tells : IsLineAt (sum_within count 1) (sum_within 0 first) line

  -- Values came and were converted, up to one that is not whole, or was not converted. At the end none is left.
  pub record Answers (pieces : Pieces) (is_end : Bool) (given written : List ℕ) (answer : Answer) : Type 0 where
    pub holds : Holds pieces given (written ++ answer.output.items)
    pub rest : MatchOption answer.failure
        (HasNoFront from (unread pieces) × (is_end ≡ true → unread pieces ≡ []))
        (λ line. IsRefused is_end holds.count (length holds.octets) (unread pieces) (string_bytes line))
