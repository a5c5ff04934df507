-- Names and numbers, as they are written.
use Rattle.std.specs.Prelude.{◌≡◌, ℕ, ℤ, pos, negsuc, codes, Bool, false, not, ◌&&◌, ◌||◌, ◌==◌, ◌^◌, ◌<◌, ◌++◌, nat_le, nat_lt, if◌then◌else◌, List, [], ◌∷◌, Option, Some, None, MatchOption, true, length}
use Rattle.std.specs.List.{list_all}
use Rattle.std.specs.Char.{is_ascii_alphanumeric, is_ascii_digit}
use Rattle.std.specs.Fmt.{decimal}
use Rattle.std.specs.Str.{bytes_eq}
use Rattle.std.specs.Str.Parse.{digits_value, signed_digits_value}

-- a letter, a digit, `-` or `_`
abbrev pub is_name_byte : ℕ → Bool
is_name_byte byte = is_ascii_alphanumeric byte || ((byte == 45) || (byte == 95))

-- a name: 1 to 64 such bytes
abbrev pub is_name : List ℕ → Bool
is_name text = (nat_le 1 (length text) && nat_le (length text) 64) && list_all is_name_byte text

-- decimal digits without a leading zero
abbrev pub is_plain_number : List ℕ → Bool
is_plain_number [] = false
is_plain_number (digit ∷ []) = is_ascii_digit digit
is_plain_number (digit ∷ digits) = not (digit == 48) && list_all is_ascii_digit (digit ∷ digits)

-- whether a text begins with a digit
abbrev pub begins_with_digit : List ℕ → Bool
begins_with_digit [] = false
begins_with_digit (byte ∷ bytes) = is_ascii_digit byte

-- A text begins with a number below 2 ^ 32 in decimal, and no further digit follows; this is left.
pub record BeginsWithNumber (text : List ℕ) (number : ℕ) (left : List ℕ) : Type 0 where
  pub spelled : text ≡ decimal number ++ left
  pub small : number < 2 ^ 32
  pub whole : begins_with_digit left ≡ false

-- the number below 2 ^ 32 that is written so
abbrev pub number_of : List ℕ → Option ℕ
number_of digits =
    if is_plain_number digits && nat_lt (digits_value 10 digits) (2 ^ 32) then Some (digits_value 10 digits) else None

-- The answer for a text is its number if it spells one; the answer for a number above 2^127 may be none.
abbrev pub SpellsNumber : Bool → ℕ → Option ℕ → Type 0
SpellsNumber spells number result =
    MatchOption result (spells ≡ true → 2 ^ 127 < number) (λ n. (spells ≡ true) × (n ≡ number))

-- such digits, or a minus and such digits of another number than 0
abbrev pub is_plain_integer : List ℕ → Bool
is_plain_integer [] = false
is_plain_integer (first ∷ rest) =
    if first == 45 then is_plain_number rest && not (bytes_eq rest (codes "0")) else is_plain_number (first ∷ rest)

-- whether 128 bits hold the number with its sign
abbrev pub fits_i128 : ℤ → Bool
fits_i128 (pos n) = nat_lt n (2 ^ 127)
fits_i128 (negsuc n) = nat_lt n (2 ^ 127)

-- the number of 128 bits that is written so
abbrev pub integer_of : List ℕ → Option ℤ
integer_of text =
    let number = signed_digits_value 10 text in if is_plain_integer text && fits_i128 number then Some number else None
