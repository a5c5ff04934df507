-- Whole numbers that no `i128` is, and those that one is.
use Rattle.std.proofs.Common.{◌<◌, ◌^◌, arith}
use Rattle.std.specs.Prelude.{ℤ, pos, negsuc, ◌<ℤ◌, FitsSigned}
use Rattle.std.specs.Int.{w128}
use Rattle.std.proofs.lemmas.Int.{ints}

-- a number below 0 that does not fit lies below each that does
pub below_all : (n e : ℤ) → (FitsSigned w128 n → ⊥) → n <ℤ pos 0 → FitsSigned w128 e → n <ℤ e
below_all (pos m) e wide negative fits = absurd (omega (arith, ints))
below_all (negsuc m) (pos k) wide negative fits = omega (arith, ints)
below_all (negsuc m) (negsuc k) wide negative fits =
    let large : m < 2 ^ 127 → ⊥ = λ lt. wide (record { sfits = lt }) in
    let small : k < 2 ^ 127 = fits.sfits in
    omega (arith, ints)

-- and one that is not below 0 lies above each
pub above_all : (n e : ℤ) → (FitsSigned w128 n → ⊥) → (n <ℤ pos 0 → ⊥) → FitsSigned w128 e → e <ℤ n
above_all (negsuc m) e wide natural fits = absurd (natural (omega (arith, ints)))
above_all (pos m) (negsuc k) wide natural fits = omega (arith, ints)
above_all (pos m) (pos k) wide natural fits =
    let large : m < 2 ^ 127 → ⊥ = λ lt. wide (record { sfits = lt }) in
    let small : k < 2 ^ 127 = fits.sfits in
    omega (arith, ints)

pub ruleset outside = (below_all, above_all)
