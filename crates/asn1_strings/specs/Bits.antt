-- Bits as octets (X.690, 8.6.2): the first bit is the highest of the first octet.
use Rattle.std.specs.Prelude.{◌≡◌, ◌<◌, ◌*◌, ◌-◌, ◌^◌, ◌/◌, ◌%◌, ◌==◌, ℕ, ⊤, Bool, true, false, List, [], ◌∷◌, ◌++◌, length, replicate, take}
use Rattle.std.specs.List.{flat_map}

-- the bit that is worth so much
abbrev pub bit_of_worth : ℕ → ℕ → Bool
bit_of_worth octet worth = octet / worth % 2 == 1

-- the bits of an octet, the highest first
abbrev pub bits_of_octet : ℕ → List Bool
bits_of_octet o = bit_of_worth o 128 ∷ bit_of_worth o 64 ∷ bit_of_worth o 32 ∷ bit_of_worth o 16 ∷
    bit_of_worth o 8 ∷ bit_of_worth o 4 ∷ bit_of_worth o 2 ∷ (o % 2 == 1) ∷ []

-- the bits of several octets
abbrev pub bits_of_octets : List ℕ → List Bool
bits_of_octets octets = flat_map (λ o. bits_of_octet o) octets

-- the bits of octets, but for this many at the end
abbrev pub bits_but : ℕ → List ℕ → List Bool
bits_but unused octets = take (length octets * 8 - unused) (bits_of_octets octets)

-- Octets are those of a BIT STRING of which this many bits of the last octet are unused: fewer than eight, and they are 0. A
-- number of 64 bits counts the bits.
pub record AreOfBits (octets : List ℕ) (unused : ℕ) : Type 0 where
  pub below_eight : unused < 8
  pub zeros : bits_of_octets octets ≡ bits_but unused octets ++ replicate unused false
  pub counted : length octets * 8 < 2 ^ 64

-- the bit, before others, of which the 0 bits at the end are left out
abbrev pub before_zeros : Bool → List Bool → List Bool
before_zeros false [] = []
before_zeros b bits = b ∷ bits

-- the bits without the 0 bits at their end (X.680, 22.7)
abbrev pub without_trailing_zeros : List Bool → List Bool
without_trailing_zeros [] = []
without_trailing_zeros (b ∷ bits) = before_zeros b (without_trailing_zeros bits)

-- The last bit is 1, if there is one.
abbrev pub EndsInOne : List Bool → Type 0
EndsInOne [] = ⊤
EndsInOne (b ∷ []) = b ≡ true
EndsInOne (b ∷ c ∷ bits) = EndsInOne (c ∷ bits)
