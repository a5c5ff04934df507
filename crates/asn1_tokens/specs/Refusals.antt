-- Why no item begins at an octet, for the text from this octet on.
use Rattle.std.specs.Prelude.{◌≡◌, ◌<◌, ◌+◌, ℕ, Bool, true, false, ◌||◌, ◌==◌, List, ◌∷◌, ◌++◌, length, drop, slice_index, None, ⊤}
use Rattle.std.specs.List.{list_all, list_any}
use Rattle.std.specs.Char.{is_ascii_digit, is_ascii_alphabetic}
use Rattle.asn1_tokens.specs.declared.error.Refusal.{Refusal}
use Rattle.asn1_tokens.specs.declared.error.Refusal.TheVariants.{UnknownCharacter, LeadingZero, UnclosedComment, UnclosedString, UnclosedDigits, NoDigits}
use Rattle.asn1_tokens.specs.declared.error.TokenError.{TokenError}
use Rattle.asn1_tokens.specs.declared.error.TokenError.TheVariants.{Refused, Memory}
use Rattle.asn1_tokens.specs.declared.token.Token.{Token}
use Rattle.asn1_tokens.specs.Characters.{first, apostrophe, quotation_mark, is_binary_character, is_hex_character}
use Rattle.asn1_tokens.specs.Items.{after_quotation}
use Rattle.asn1_tokens.specs.Skipped.{Skips, IsUnclosedComment, is_unskipped}
use Rattle.asn1_tokens.specs.Tokens.{TakesTokens}
use Rattle.asn1_tokens.specs.Words.{begins_with_symbol}

-- A letter, a digit, a quotation mark, an apostrophe, or a symbol.
abbrev pub begins_item : List ℕ → Bool
begins_item text =
    ((is_ascii_alphabetic (first text) || is_ascii_digit (first text)) || (first text == quotation_mark || first text == apostrophe))
    || begins_with_symbol text

-- Two apostrophes, with no other between them, and what is between them and behind them is no bstring and no hstring.
pub record HasNoDigits (text : List ℕ) : Type 0 where
  pub body : List ℕ
  pub after : List ℕ
  pub parts : text ≡ apostrophe ∷ (body ++ apostrophe ∷ after)
  pub inside : list_any (λ c. c == apostrophe) body ≡ false
  pub no_bits : first after ≡ 66 → list_all is_binary_character body ≡ false
  pub no_hex : first after ≡ 72 → list_all is_hex_character body ≡ false

-- A character that is no white space, and with which neither a comment nor an item begins.
abbrev pub IsUnknownCharacter : List ℕ → Type 0
IsUnknownCharacter text = (0 < length text) × (is_unskipped text ≡ true) × (begins_item text ≡ false)

abbrev pub IsRefused : Refusal → List ℕ → Type 0
IsRefused UnknownCharacter text = IsUnknownCharacter text
IsRefused LeadingZero text = (first text ≡ 48) × (is_ascii_digit (slice_index text 1) ≡ true)
IsRefused UnclosedComment text = IsUnclosedComment text
IsRefused UnclosedString text = (first text ≡ quotation_mark) × (after_quotation false (drop 1 text) ≡ None)
IsRefused UnclosedDigits text = (first text ≡ apostrophe) × (list_any (λ c. c == apostrophe) (drop 1 text) ≡ false)
IsRefused NoDigits text = HasNoDigits text

-- White space and comments are skipped, and at the offset behind them no item begins for this cause. The whole text has
-- this size.
abbrev pub RefusesAt : ℕ → List ℕ → Refusal → ℕ → Type 0
RefusesAt size text cause at = (rest : List ℕ) × Skips text rest × IsRefused cause rest × (at + length rest ≡ size)

-- Tokens come first, and then an octet at which no item begins; or memory ran out.
abbrev pub Refuses : List ℕ → TokenError → Type 0
Refuses text Memory = ⊤
Refuses text (Refused cause at) =
    (tokens : List Token) × (rest : List ℕ) × TakesTokens (length text) text tokens rest × RefusesAt (length text) rest cause at
