-- Contents octets that are not those of DER.
use Rattle.std.specs.Prelude.{◌≡◌, ◌≢◌, ◌⊎◌, ℕ, Bool, ◌-◌, ◌/◌, ◌%◌, ◌^◌, ◌<◌, List, [], ◌∷◌, length, slice_index}
use Rattle.asn1_der_items.specs.Integers.{first_nine_bits}
use Rattle.asn1_model.specs.Tags.{universal}
use Rattle.asn1_tags.specs.Tags.{has}
use Rattle.asn1_tags.specs.declared.tags.Tag.{Tag}

-- the octet is neither that of FALSE nor ff (11.1)
abbrev pub IsOtherTrue : List ℕ → Type 0
IsOtherTrue (o ∷ []) = (o ≢ 0) × (o ≢ 255)
IsOtherTrue _ = ⊥

-- the first nine bits are all zeros or all ones (8.3.2)
abbrev pub IsPadded : List ℕ → Type 0
IsPadded (o ∷ p ∷ octets) = (first_nine_bits o p ≡ 0) ⊎ (first_nine_bits o p ≡ 511)
IsPadded _ = ⊥

-- The octet at this index is a first septet of zero (8.19.2): bit 8 is 1 and the others are 0, and no octet is before it, or one
-- without bit 8, which ends a number.
pub record IsPaddedArc (octets : List ℕ) (index : ℕ) : Type 0 where
  pub inside : index < length octets
  pub zero : slice_index octets index ≡ 128
  pub first : (index ≡ 0) ⊎ (slice_index octets (index - 1) < 128)

-- no number among the octets is padded
abbrev pub HasNoPaddedArc : List ℕ → Type 0
HasNoPaddedArc octets = (index : ℕ) → IsPaddedArc octets index → ⊥

-- The first octet is the number of unused bits of the last one, fewer than eight (8.6.2), and an unused bit is 1 (11.2.1).
pub record HasUnusedBit (octets : List ℕ) : Type 0 where
  pub below : slice_index octets 0 < 8
  pub more : 1 < length octets
  pub not_zero : slice_index octets (length octets - 1) % 2 ^ slice_index octets 0 ≢ 0

-- There are bits, and the last of them is zero, which 11.2.2 forbids where bits have names.
pub record EndsWithZero (octets : List ℕ) : Type 0 where
  pub below : slice_index octets 0 < 8
  pub more : 1 < length octets
  pub zero : slice_index octets (length octets - 1) / 2 ^ slice_index octets 0 % 2 ≡ 0

-- whether a tag is that of a string or a time (X.680, 8.4, table 1)
abbrev pub is_string : Tag → Bool
is_string tag =
    has tag (universal 3 ∷ universal 4 ∷ universal 7 ∷ universal 12 ∷ universal 18 ∷ universal 19 ∷ universal 20 ∷ universal 21 ∷ universal 22 ∷
    universal 23 ∷ universal 24 ∷ universal 25 ∷ universal 26 ∷ universal 27 ∷ universal 28 ∷ universal 30 ∷ [])
