-- The sizes of a value that has each from one on (X.680, 22.7).
use Rattle.std.proofs.Common.{◌↔◌, ℕ, ◌+◌, ◌≤◌, pos, ◌≤ℤ◌, None, Some, arith}
use Rattle.std.proofs.lemmas.Int.{ints}
use Rattle.asn1_ranges.specs.declared.bounded.Bounded.TheVariants.{Range}
use Rattle.asn1_limits.specs.Facets.{HasSizeIn, growing}

as_numbers : (a b : ℕ) → a ≤ b → pos a ≤ℤ pos b
as_numbers a b below = grind (arith, ints)

as_sizes : (a b : ℕ) → pos a ≤ℤ pos b → a ≤ b
as_sizes a b below = grind (arith, ints)

-- it has one between two ends if the second is not below the first, nor below the value's least size
pub growing_between : (start end n : ℕ) → HasSizeIn (Range (Some start) (Some end)) (growing n) ↔ ((start ≤ end) × (n ≤ end))
growing_between start end n = (
  λ has.
      let from_start = as_sizes start has.0 has.2.0 in
      let to_end = as_sizes has.0 end has.2.1 in
      (omega (arith, from_start, to_end), omega (arith, has.1, to_end)),
  λ both. (end, both.1, (as_numbers start end both.0, as_numbers end end (omega arith))),
)

-- it has one from any start on
pub growing_from : (start n : ℕ) → HasSizeIn (Range (Some start) None) (growing n)
growing_from start n = (start + n, omega arith, (as_numbers start (start + n) (omega arith), tt))
