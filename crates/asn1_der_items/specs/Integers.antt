-- Whole numbers in two's complement (X.690, 8.3), in as few octets as there can be.
use Rattle.std.specs.Prelude.{◌≡◌, ◌≢◌, ℕ, ℤ, pos, neg_ℤ, ◌+◌, ◌-◌, ◌*◌, ◌/◌, ◌%◌, ◌^◌, ⊤, List, [], ◌∷◌, length, nat_lt, if◌then◌else◌}
use Rattle.asn1_values.specs.Numbers.{magnitude}

-- the number below 0 of these digits
abbrev pub below_zero : List ℕ → ℤ
below_zero digits = neg_ℤ (pos (magnitude digits))

-- the number of some octets of which bit 8 of the first is 1: it is less by 256 to the number of octets (8.3.3)
abbrev pub negative_value : List ℕ → ℤ
negative_value octets = neg_ℤ (pos (256 ^ length octets - magnitude octets))

-- the number of some octets in two's complement
abbrev pub twos_complement : List ℕ → ℤ
twos_complement [] = pos 0
twos_complement (o ∷ octets) = if nat_lt o 128 then pos (magnitude (o ∷ octets)) else negative_value (o ∷ octets)

-- the bits of an octet, and bit 8 of the next
abbrev pub first_nine_bits : ℕ → ℕ → ℕ
first_nine_bits o p = o * 2 + p / 128 % 2

-- There are octets, and the bits of the first and bit 8 of the second are neither all 0 nor all 1 (8.3.2).
abbrev pub IsShortest : List ℕ → Type 0
IsShortest [] = ⊥
IsShortest (o ∷ []) = ⊤
IsShortest (o ∷ p ∷ octets) = (first_nine_bits o p ≢ 0) × (first_nine_bits o p ≢ 511)

-- The octets are this number.
pub record IsInteger (number : ℤ) (octets : List ℕ) : Type 0 where
  pub value : twos_complement octets ≡ number
  pub shortest : IsShortest octets

-- The second number is the complement of the first: what it lacks to 256^n, where n is the number of octets of each.
pub record IsComplement (octets complement : List ℕ) : Type 0 where
  pub sum : magnitude complement + magnitude octets ≡ 256 ^ length octets
  pub as_long : length complement ≡ length octets
