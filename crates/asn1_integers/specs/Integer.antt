-- The number of an `Integer`, and its unique representation.
use Rattle.std.specs.Prelude.{ℤ, Bool, ℕ, List, FitsSigned}
use Rattle.std.specs.Int.{w128}
use Rattle.asn1_integers.specs.Numbers.{magnitude, signed, IsMagnitude}
use Rattle.asn1_integers.specs.declared.integer.Representation.{Representation}
use Rattle.asn1_integers.specs.declared.integer.Representation.TheVariants.{Narrow, Wide}

-- the number of a representation
abbrev pub number : Representation → ℤ
number (Narrow n) = n
number (Wide negative bytes) = signed negative (magnitude bytes.items)

-- a number that does not fit 128 bits, and has no leading zero
pub record IsWide (negative : Bool) (bytes : List ℕ) : Type 0 where
  pub normal : IsMagnitude bytes
  pub too_wide : ¬ FitsSigned w128 (signed negative (magnitude bytes))

-- each number has one representation: an i128 if it fits
abbrev pub IsUniqueRepresentation : Representation → Type 0
IsUniqueRepresentation (Narrow n) = FitsSigned w128 n
IsUniqueRepresentation (Wide negative bytes) = IsWide negative bytes.items
