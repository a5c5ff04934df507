-- Primitive contents octets as BER has them, more than DER has (X.690, 8.2 and 8.6.2; 11.1 and 11.2.1).
use Rattle.std.specs.Prelude.{◌≡◌, ◌≢◌, ◌<◌, ℕ, Bool, false, true, List, [], ◌∷◌, ◌++◌, length}
use Rattle.asn1_items.specs.Bits.{AreBits, bits_of_octets}

-- The contents octets are this truth value (8.2.2).
pub data IsTruthValue : Bool → List ℕ → Type 0 where
  -- FALSE is zero
  zero_octet : IsTruthValue false (0 ∷ [])
  -- TRUE is any other octet
  other_octet : (octet : ℕ) → octet ≢ 0 → IsTruthValue true (octet ∷ [])

-- The contents octets are these bits: how many bits of the last octet are unused, and the octets. The unused bits may be any.
pub record AreLooseBits (bits : List Bool) (bytes : List ℕ) : Type 0 where
  pub unused : ℕ
  pub octets : List ℕ
  pub others : List Bool
  pub are : bytes ≡ unused ∷ octets
  pub below_eight : unused < 8
  pub same : bits_of_octets octets ≡ bits ++ others
  pub unused_are : length others ≡ unused

-- The second contents octets are bits as DER has them, with unused bits that are 0 (11.2.1). The first are the same bits.
pub record AreSameBits (loose strict : List ℕ) : Type 0 where
  pub bits : List Bool
  pub is_loose : AreLooseBits bits loose
  pub is_strict : AreBits bits strict
