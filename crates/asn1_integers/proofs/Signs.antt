-- Facts on numbers by their sign and magnitude.
use Rattle.std.proofs.Common.{◌≡◌, ◌↔◌, ℕ, zero, suc, ◌<◌, ◌≤◌, ◌^◌, lit<, ℤ, pos, negsuc, ◌<ℤ◌, Bool, true, false, IsTrue, refl, ⊎_elim, arith}
use Rattle.std.specs.Prelude.{unsigned_abs, FitsSigned}
use Rattle.std.specs.declared.cmp.Ordering.TheVariants.{Less, Greater}
use Rattle.std.specs.Cmp.{int_cmp_is}
use Rattle.std.specs.Int.{is_negative, w128}
use Rattle.std.specs.Ordering.{int_cmp}
use Rattle.std.proofs.lemmas.Int.{ints}
use Rattle.std.proofs.lemmas.Bool.Decides.{nat_tests}
use Rattle.std.proofs.lemmas.Bool.{cases_lt, false≢true}
use Rattle.asn1_integers.specs.Numbers.{signed}

-- the sign and the absolute value make the number
pub signed-unsigned_abs : (negative : Bool) (z : ℤ) → (IsTrue negative ↔ (z <ℤ pos 0)) → signed negative (unsigned_abs z) ≡ z
signed-unsigned_abs false (pos n) sign = refl
signed-unsigned_abs false (negsuc n) sign = absurd (false≢true (sign.1 (omega (arith, ints))))
signed-unsigned_abs true (pos n) sign = let below = sign.0 refl in absurd (omega (arith, ints))
signed-unsigned_abs true (negsuc n) sign = refl

-- the absolute value is the magnitude
pub unsigned_abs-signed : (negative : Bool) (n : ℕ) → unsigned_abs (signed negative n) ≡ n
unsigned_abs-signed false n = refl
unsigned_abs-signed true zero = refl
unsigned_abs-signed true (suc n) = refl

-- a number that does not fit lies beyond each that does
pub beyond : (z : ℤ) (m : ℕ) → (m < 2 ^ 127 → FitsSigned w128 z) → ¬ FitsSigned w128 z → 2 ^ 127 ≤ m
beyond z m near wide = ⊎_elim (λ small. absurd (wide (near small))) (λ far. far) (cases_lt m (2 ^ 127))

-- a number that does not fit compares to one that does as its sign does to 0
pub int_cmp-wide : (negative : Bool) (m : ℕ) (n : ℤ) → FitsSigned w128 n → ¬ FitsSigned w128 (signed negative m) → int_cmp (pos 0) (signed negative 1) ≡ int_cmp n (signed negative m)
int_cmp-wide false m (pos k) fits wide =
    let far = beyond (pos m) m (λ small. record { sfits = small }) wide in
    let near : k < 2 ^ 127 = fits.sfits in
    int_cmp_is (pos k) (pos m) Less (omega (arith, ints))
int_cmp-wide false m (negsuc k) fits wide = int_cmp_is (negsuc k) (pos m) Less (omega (arith, ints))
int_cmp-wide true zero n fits wide = absurd (wide (record { sfits = lit< tt }))
int_cmp-wide true (suc m) (pos k) fits wide = int_cmp_is (pos k) (negsuc m) Greater (omega (arith, ints))
int_cmp-wide true (suc m) (negsuc k) fits wide =
    let far = beyond (negsuc m) m (λ small. record { sfits = small }) wide in
    let near : k < 2 ^ 127 = fits.sfits in
    int_cmp_is (negsuc k) (negsuc m) Greater (omega (arith, ints))

-- the test of the sign
pub is_negative-is : (negative : Bool) (z : ℤ) → (IsTrue negative ↔ (z <ℤ pos 0)) → is_negative z ≡ negative
is_negative-is false (pos n) sign = grind (arith, nat_tests)
is_negative-is false (negsuc n) sign = absurd (false≢true (sign.1 (omega (arith, ints))))
is_negative-is true (pos n) sign = let below = sign.0 refl in absurd (omega (arith, ints))
is_negative-is true (negsuc n) sign = refl
