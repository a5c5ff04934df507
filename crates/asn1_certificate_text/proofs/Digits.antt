-- Numbers of two digits.
use Rattle.std.proofs.Common.{◌≡◌, ℕ, ◌+◌, ◌*◌, ◌/◌, ◌%◌, ◌<◌, ◌≤◌, [], ◌∷◌, ◌++◌, refl, arith}
use Rattle.std.specs.Fmt.{decimal}
use Rattle.std.proofs.lemmas.Fmt.{decimal_digit}
use Rattle.asn1_certificate_text.specs.Moments.{days_in_month, two_digits}

-- the number of the two digits of a number
pub number_of_digits : (n tens ones : ℕ) → n < 100 → tens ∷ ones ∷ [] ≡ two_digits n → tens % 16 * 10 + ones % 16 ≡ n
number_of_digits n tens ones small are =
    let first : tens ≡ 48 + n / 10 % 10 = cc in
    let second : ones ≡ 48 + n % 10 = cc in
    omega arith

-- the digits as two numbers are written
pub written_digits : (n : ℕ) → decimal (n / 10 % 10) ++ decimal (n % 10) ≡ two_digits n
written_digits n =
    let first : n / 10 % 10 < 10 = omega arith in
    let second : n % 10 < 10 = omega arith in
    rw (decimal_digit (n / 10 % 10) first, decimal_digit (n % 10) second) refl

-- the last two digits of a number are those of what is left of it
pub last_digits : (n : ℕ) → two_digits n ≡ two_digits (n % 100)
last_digits n =
    let first : n / 10 % 10 ≡ n % 100 / 10 % 10 = omega arith in
    let second : n % 10 ≡ n % 100 % 10 = omega arith in
    cc

-- no month has more than 31 days
pub days_in_month-le : (year month : ℕ) → days_in_month year month ≤ 31
days_in_month-le year month = grind arith
