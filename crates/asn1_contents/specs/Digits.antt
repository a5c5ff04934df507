-- Numbers by two decimal digits.
use Rattle.std.specs.Prelude.{ℕ, Bool, true, ◌+◌, ◌*◌, ◌-◌, ◌/◌, ◌%◌, ◌&&◌, not, nat_lt, List, [], ◌∷◌, slice_index}

-- whether an octet is a decimal digit
abbrev pub is_digit : ℕ → Bool
is_digit o = not (nat_lt o 48) && nat_lt o 58

-- whether octets are decimal digits
abbrev pub are_digits : List ℕ → Bool
are_digits [] = true
are_digits (o ∷ rest) = is_digit o && are_digits rest

-- the number of two digits
abbrev pub two_digits : ℕ → ℕ → ℕ
two_digits high low = (high - 48) * 10 + (low - 48)

-- the number of the two digits at an index
abbrev pub number_at : List ℕ → ℕ → ℕ
number_at octets index = two_digits (slice_index octets index) (slice_index octets (index + 1))

-- the two digits of a number below 100, and more
abbrev pub digits_then : ℕ → List ℕ → List ℕ
digits_then number more = (48 + number / 10) ∷ (48 + number % 10) ∷ more
