-- Numbers as bytes, the highest first.
use Rattle.std.specs.Prelude.{◌≡◌, ◌<◌, ◌^◌, ℕ, ℤ, Bool, true, List, ◌∷◌, ◌++◌, length, All, if◌then◌else◌}
use Rattle.std.specs.Int.{w16, w32, to_be_bytes}
use Rattle.std.specs.List.{flat_map}
use Rattle.asn1_values.specs.Numbers.{magnitude, signed, IsShortest}

-- a number in two bytes, and in four
abbrev pub two_bytes : ℕ → List ℕ
two_bytes n = to_be_bytes w16 n

abbrev pub four_bytes : ℕ → List ℕ
four_bytes n = to_be_bytes w32 n

-- The bytes are these numbers, each of which is two bytes long.
pub record AreTwos (numbers bytes : List ℕ) : Type 0 where
  pub are : bytes ≡ flat_map (λ n. two_bytes n) numbers
  pub fit : All (λ n. n < 2 ^ 16) numbers

-- The bytes are these numbers, each of which is four bytes long.
pub record AreFours (numbers bytes : List ℕ) : Type 0 where
  pub are : bytes ≡ flat_map (λ n. four_bytes n) numbers
  pub fit : All (λ n. n < 2 ^ 32) numbers

-- the byte of a sign: 1 of a negative number, and else 0
abbrev pub sign_byte : Bool → ℕ
sign_byte negative = if negative then 1 else 0

-- The bytes are an integer: its sign, and its magnitude without leading zeros. A zero is not negative.
pub record IsInteger (number : ℤ) (bytes : List ℕ) : Type 0 where
  pub negative : Bool
  pub digits : List ℕ
  pub are : bytes ≡ sign_byte negative ∷ digits
  pub value : signed negative (magnitude digits) ≡ number
  pub shortest : IsShortest digits
  pub no_negative_zero : negative ≡ true → 0 < length digits

-- The bytes that were appended to others are such bytes.
pub record Appended (IsAdded : List ℕ → Type 0) (old new : List ℕ) : Type 0 where
  pub added : List ℕ
  pub is : IsAdded added
  pub joined : new ≡ old ++ added
