-- Bits as octets (X.690, 8.6.2): the first bit is the highest of the first octet.
use Rattle.std.specs.Prelude.{◌≡◌, ◌<◌, ◌*◌, ◌/◌, ℕ, Bool, false, List, ◌∷◌, ◌++◌, length, replicate, take}
pub use Rattle.asn1_values.specs.Bits.{bit_of_worth, bits_of_octet, bits_of_octets}

-- The bytes are these bits: how many bits of the last octet are unused, and the octets, in which the unused bits are 0.
pub record AreBits (bits : List Bool) (bytes : List ℕ) : Type 0 where
  pub unused : ℕ
  pub octets : List ℕ
  pub are : bytes ≡ unused ∷ octets
  pub below_eight : unused < 8
  pub same : bits_of_octets octets ≡ bits ++ replicate unused false

-- The bytes up to an index are as they were, and the others are the octets of these bits, but for those that are no whole octet.
pub record AreOctetsOf (bits : List Bool) (start : ℕ) (old new : List ℕ) : Type 0 where
  pub octets : List ℕ
  pub are : new ≡ take start old ++ octets
  pub same : bits_of_octets octets ≡ take (length bits / 8 * 8) bits
