-- Texts of hexadecimal digits: the characters of an hstring (X.680, 12.12), where letters may be small.
use Rattle.std.specs.Prelude.{◌≡◌, ℕ, ⊤, Bool, true, false, not, ◌||◌, List, length, map, MatchOption, slice_get, take}
use Rattle.std.specs.Char.{is_ascii_hexdigit, is_ascii_whitespace, to_ascii_lowercase}
use Rattle.std.specs.List.{filter, flat_map, list_all}
use Rattle.asn1_rules.specs.CanonicalReading.{AreOctets}
use Rattle.asn1_values.specs.Text.{byte_text}
use Rattle.asn1_convert.specs.declared.hexadecimal.DigitsError.{DigitsError}
use Rattle.asn1_convert.specs.declared.hexadecimal.DigitsError.TheVariants.{Memory, At}

-- what a text has beside white space, with small letters
abbrev pub digits_in : List ℕ → List ℕ
digits_in text = map to_ascii_lowercase (filter (λ c. not (is_ascii_whitespace c)) text)

-- The text is the digits of these octets, two for each, with white space anywhere.
abbrev pub AreDigitsOf : List ℕ → List ℕ → Type 0
AreDigitsOf octets text = digits_in text ≡ flat_map byte_text octets

-- a digit, or white space
abbrev pub is_digit_or_space : ℕ → Bool
is_digit_or_space c = is_ascii_whitespace c || is_ascii_hexdigit c

-- No octets have this text, and this is the first position at which that shows: of a character that is neither a digit nor white
-- space; or the end, behind a first digit that lacks its second.
pub record IsFirstFault (text : List ℕ) (position : ℕ) : Type 0 where
  pub none : (octets : List ℕ) → AreOctets octets → AreDigitsOf octets text → ⊥
  pub before : list_all is_digit_or_space (take position text) ≡ true
  pub here : MatchOption (slice_get text position) (position ≡ length text) (λ c. is_digit_or_space c ≡ false)

-- Memory ran out, or the text has this first fault.
abbrev pub IsDigitsError : List ℕ → DigitsError → Type 0
IsDigitsError text Memory = ⊤
IsDigitsError text (At position) = IsFirstFault text position
