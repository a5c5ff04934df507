-- Numbers to the base 128 (X.690, 8.1.2.4.2 and 8.19.2): seven bits an octet, the highest first. Bit 8 is 1 in each octet but
-- the last.
use Rattle.std.specs.Prelude.{◌≡◌, ℕ, ◌+◌, ◌-◌, ◌*◌, ◌<◌, Option, None, Some, List, [], ◌∷◌, ◌++◌, map, nat_eq, nat_lt, if◌then◌else◌}
use Rattle.std.specs.Int.Digits.{AllBelowBase, number_from_digits}
use Rattle.asn1_values.specs.Numbers.{IsShortest}

-- The octets are a number: its digits to the base 128, of which the first is not 0 where there are more than one.
pub record IsBase128 (number : ℕ) (octets : List ℕ) : Type 0 where
  pub leading : List ℕ
  pub last : ℕ
  pub are : octets ≡ map (λ d. d + 128) leading ++ last ∷ []
  pub digits : AllBelowBase 128 (leading ++ last ∷ [])
  pub value : number_from_digits 128 (leading ++ last ∷ []) ≡ number
  pub shortest : IsShortest leading

-- a number that was read in front of some bytes, and the bytes after it
pub record Front : Type 0 where
  pub number : ℕ
  pub rest : List ℕ

-- The bytes begin with the octets of this number, and what is left follows them.
pub record BeginWithNumber (f : Front) (bytes : List ℕ) : Type 0 where
  pub octets : List ℕ
  pub number : IsBase128 f.number octets
  pub are : bytes ≡ octets ++ f.rest

-- the number of these octets, where the digits before them are this number
abbrev pub base128_after : ℕ → List ℕ → Option Front
base128_after n [] = None
base128_after n (o ∷ rest) = if nat_lt o 128 then Some (record { number = n * 128 + o; rest = rest }) else base128_after (n * 128 + (o - 128)) rest

-- the number to the base 128 with which the bytes begin, if its first digit is not a 0 before others
abbrev pub base128_at : List ℕ → Option Front
base128_at [] = None
base128_at (o ∷ rest) = if nat_eq o 128 then None else base128_after 0 (o ∷ rest)

-- The octets are the leading digits of a number, each with bit 8 set.
pub record AreLeading (number : ℕ) (octets : List ℕ) : Type 0 where
  pub digits : List ℕ
  pub are : octets ≡ map (λ d. d + 128) digits
  pub below : AllBelowBase 128 digits
  pub value : number_from_digits 128 digits ≡ number
  pub shortest : IsShortest digits

-- The octets are the digits of a number before its last digit, each with bit 8 set. They are a number below this limit.
pub record LackLast (limit : ℕ) (octets : List ℕ) : Type 0 where
  pub number : ℕ
  pub below : number < limit
  pub none : base128_at octets ≡ None
  pub completed : (last : ℕ) → last < 128 → base128_at (octets ++ last ∷ []) ≡ Some (record { number = number * 128 + last; rest = [] })
