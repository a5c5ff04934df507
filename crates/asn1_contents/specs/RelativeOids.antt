-- The contents octets of a RELATIVE-OID (X.680, 33; X.690, 8.20).
use Rattle.asn1_der_items.specs.Arcs.{AreNumbers}
use Rattle.std.specs.Prelude.{ℕ, Bool, false, ◌&&◌, ◌||◌, not, List, [], ◌∷◌, ◌==◌, nat_lt}

-- Whether octets are the rest of numbers to the base 128, one after another (8.20.2): bit 8 is 1 in each octet of a number but its last, and
-- no number begins with the octet 80, which is a leading zero. The first argument tells whether a number has begun.
abbrev pub are_numbers : Bool → List ℕ → Bool
are_numbers begun [] = not begun
are_numbers begun (o ∷ rest) = (begun || not (o == 128)) && are_numbers (not (nat_lt o 128)) rest

-- whether octets are those of one number or more
abbrev pub is_relative_oid : List ℕ → Bool
is_relative_oid [] = false
is_relative_oid (o ∷ rest) = are_numbers false (o ∷ rest)

-- Octets are those of one arc or more.
pub record IsRelativeOid (octets : List ℕ) : Type 0 where
  pub first : ℕ
  pub others : List ℕ
  pub are : AreNumbers (first ∷ others) octets
