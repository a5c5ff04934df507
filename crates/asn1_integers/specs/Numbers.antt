-- Whole numbers, and their magnitudes as bytes.
use Rattle.std.specs.Prelude.{◌≢◌, ℕ, ℤ, pos, neg_ℤ, Bool, if◌then◌else◌, List, Some, slice_get}
use Rattle.std.specs.Int.Digits.{AllBelowBase, number_from_digits}

-- the number whose digits to the base 256 are the bytes, the most significant first
abbrev pub magnitude : List ℕ → ℕ
magnitude bytes = number_from_digits 256 bytes

-- the number of a sign and a magnitude. A zero has no sign
abbrev pub signed : Bool → ℕ → ℤ
signed negative n = if negative then neg_ℤ (pos n) else pos n

-- the bytes begin with no zero. So a magnitude has one such list, and that of 0 is empty
abbrev pub IsShortest : List ℕ → Type 0
IsShortest bytes = slice_get bytes 0 ≢ Some 0

-- the same of a list of numbers, which are also bytes
pub record IsMagnitude (bytes : List ℕ) : Type 0 where
  pub are_bytes : AllBelowBase 256 bytes
  pub shortest : IsShortest bytes
