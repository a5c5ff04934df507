-- Elements of BER with definite lengths of the fewest octets (X.690, 8.1.3 and 10.1), and how deep they lie.
use Rattle.std.specs.Prelude.{ℕ, List, []}
use Rattle.asn1_ber_items.specs.Spellings.{Spells}
use Rattle.fan_calls.specs.Depths.{NestsDeeper}

-- The second octets are the elements of the first with definite lengths of the fewest octets, and none lies inside more constructed
-- elements than the depth.
pub record IsNormal (depth : ℕ) (octets normal : List ℕ) : Type 0 where
  pub spells : Spells octets normal []
  pub shallow : ¬ NestsDeeper depth normal

-- The octets are elements, of which some octets lie inside more constructed elements than the depth.
pub record HasDeepNormal (depth : ℕ) (octets : List ℕ) : Type 0 where
  pub normal : List ℕ
  pub spells : Spells octets normal []
  pub deep : NestsDeeper depth normal
