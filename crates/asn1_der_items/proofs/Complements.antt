-- Whole numbers in two's complement.
use Rattle.std.proofs.Common.{◌≡◌, ℕ, zero, suc, lit<, ◌+◌, ◌-◌, ◌*◌, ◌≤◌, ◌<◌, ◌^◌, true, false, List, [], ◌∷◌, ◌++◌, append_assoc, subst, Some, Result, Ok, Err, length, length-drop, get_or, set, drop, refl, sym, ap, ◌∙◌, arith}
use Rattle.std.proofs.Math.Nat.{mul-le-mul_right, one-le-pow, pow-suc}
use Rattle.std.proofs.Math.Seq.{drop-cons}
use Rattle.std.proofs.lemmas.Bool.{lt-ltb, le-ltb}
use Rattle.std.proofs.lemmas.List.{drop-set}
use Rattle.std.specs.Int.Digits.{number_from_digits_after}
use Rattle.std.specs.Prelude.{ℤ, pos, neg_ℤ, ◌<ℤ◌, ◌==◌, if◌then◌else◌, IfOk, MatchResult}
use Rattle.asn1_values.specs.Numbers.{magnitude, signed, IsShortest as BeginsWithDigit}
use Rattle.asn1_der_items.specs.Integers.{IsComplement, IsInteger, IsShortest, twos_complement}
use borrow.Author.Tests.{eqb-true}
use Rattle.std.proofs.lemmas.Int.{ints}
use Rattle.asn1_items.specs.Numbers.{Appended}

-- what was read before counts for as much as its place is worth
after_is : (n : ℕ) (ds : List ℕ) → number_from_digits_after 256 n ds ≡ n * 256 ^ length ds + magnitude ds
after_is n [] = omega arith
after_is n (d ∷ ds) = rw pow-suc (omega (arith, after_is (n * 256 + d) ds, after_is (0 * 256 + d) ds))

pub magnitude-cons : (d : ℕ) (ds : List ℕ) → magnitude (d ∷ ds) ≡ d * 256 ^ length ds + magnitude ds
magnitude-cons d ds = after_is (0 * 256 + d) ds ∙ ap (λ k. k * 256 ^ length ds + magnitude ds) (omega arith)

-- one octet of the complement
complement_more : (P A B v y c c' : ℕ) → v + 256 * c' + y ≡ 255 + c → A + B + c * P ≡ P → (v * P + A) + (y * P + B) + c' * (P * 256) ≡ P * 256
complement_more P A B v y c c' digit sum = let scaled : (v + 256 * c' + y) * P ≡ (255 + c) * P = ap (λ k. k * P) digit in omega arith

pub negated : (xs ys : List ℕ) (i v c c' : ℕ) → 0 < i → i ≤ length ys → length xs ≡ length ys → get_or xs (i - 1) 0 ≡ get_or ys (i - 1) 0 → v + 256 * c' + get_or xs (i - 1) 0 ≡ 255 + c →
    magnitude (drop i xs) + magnitude (drop i ys) + c * 256 ^ (length ys - i) ≡ 256 ^ (length ys - i) →
    magnitude (drop (i - 1) (set xs (i - 1) v)) + magnitude (drop (i - 1) ys) + c' * 256 ^ (length ys - (i - 1)) ≡ 256 ^ (length ys - (i - 1))
negated xs ys i v c c' some within long same digit sum =
    let P = 256 ^ (length ys - i) in
    let back : (i - 1) + 1 ≡ i = omega arith in
    let back' : suc (i - 1) ≡ i = omega arith in
    let first : magnitude (drop (i - 1) (set xs (i - 1) v)) ≡ v * P + magnitude (drop i xs) =
    ap magnitude (drop-set xs (i - 1) v (omega arith)) ∙ ap (λ k. magnitude (v ∷ drop k xs)) back ∙ magnitude-cons v (drop i xs)
    ∙ ap (λ k. v * 256 ^ k + magnitude (drop i xs)) (length-drop i xs ∙ ap (λ k. k - i) long) in
    let second : magnitude (drop (i - 1) ys) ≡ get_or ys (i - 1) 0 * P + magnitude (drop i ys) =
    ap magnitude (drop-cons ys (i - 1) 0 (omega arith)) ∙ ap (λ k. magnitude (get_or ys (i - 1) 0 ∷ drop k ys)) back' ∙ magnitude-cons (get_or ys (i - 1) 0) (drop i ys)
    ∙ ap (λ k. get_or ys (i - 1) 0 * 256 ^ k + magnitude (drop i ys)) (length-drop i ys) in
    let power : 256 ^ (length ys - (i - 1)) ≡ P * 256 = ap (λ k. 256 ^ k) (let more : length ys - (i - 1) ≡ suc (length ys - i) = omega arith in more) ∙ pow-suc 256 (length ys - i) in
    let digit' : v + 256 * c' + get_or ys (i - 1) 0 ≡ 255 + c = ap (λ k. v + 256 * c' + k) (sym same) ∙ digit in
    let more = complement_more P (magnitude (drop i xs)) (magnitude (drop i ys)) v (get_or ys (i - 1) 0) c c' digit' sum in
    ap (λ k. k + magnitude (drop (i - 1) ys) + c' * 256 ^ (length ys - (i - 1))) first
    ∙ ap (λ k. (v * P + magnitude (drop i xs)) + k + c' * 256 ^ (length ys - (i - 1))) second
    ∙ ap (λ k. (v * P + magnitude (drop i xs)) + (get_or ys (i - 1) 0 * P + magnitude (drop i ys)) + c' * k) power
    ∙ more ∙ sym power

-- where nothing was carried out of the number
pub no_carry : (A B c P : ℕ) → A + B + c * P ≡ P → c ≤ 1 → 0 < B → A + B ≡ P
no_carry A B c P sum bit some = by c sum bit
  where
    by : (c : ℕ) → A + B + c * P ≡ P → c ≤ 1 → A + B ≡ P
    by zero sum bit = omega arith
    by (suc zero) sum bit = absurd (omega arith)
    by (suc (suc c)) sum bit = absurd (omega arith)

-- natural numbers
pub low_natural : (digits : List ℕ) → 0 < length digits → get_or digits 0 0 < 128 → BeginsWithDigit digits → IsInteger (pos (magnitude digits)) digits
low_natural [] some low shortest = absurd (omega arith)
low_natural (d ∷ []) some low shortest = record { value = ap (λ b. if b then pos (magnitude (d ∷ [])) else neg_ℤ (pos (256 ^ length (d ∷ []) - magnitude (d ∷ [])))) (lt-ltb d 128 low); shortest = tt }
low_natural (d ∷ p ∷ digits) some low shortest = record {
  value = ap (λ b. if b then pos (magnitude (d ∷ p ∷ digits)) else neg_ℤ (pos (256 ^ length (d ∷ p ∷ digits) - magnitude (d ∷ p ∷ digits)))) (lt-ltb d 128 low);
  shortest = ((λ e. shortest (ap Some (let z : d ≡ 0 = omega arith in z))), λ e. omega arith);
}

pub high_natural : (digits : List ℕ) → 128 ≤ get_or digits 0 0 → get_or digits 0 0 < 256 → IsInteger (pos (magnitude digits)) (0 ∷ digits)
high_natural [] high octet = absurd (omega arith)
high_natural (d ∷ digits) high octet = record { value = refl; shortest = ((λ e. omega arith), λ e. omega arith) }

pub no_digits : (digits : List ℕ) → (length digits == 0) ≡ true → IsInteger (pos (magnitude digits)) (0 ∷ [])
no_digits [] none = record { value = refl; shortest = tt }
no_digits (d ∷ digits) none = absurd (omega (arith, eqb-true (length (d ∷ digits)) 0 none))

pub some_digits : (digits : List ℕ) → (length digits == 0) ≡ false → 0 < length digits
some_digits [] some = cc
some_digits (d ∷ digits) some = omega arith

-- octets that were appended after one more
pub led : {P : List ℕ → Type 0} (old mid new octets : List ℕ) (o : ℕ) → mid ≡ old ++ o ∷ [] → new ≡ mid ++ octets → P (o ∷ octets) → Appended P old new
led old mid new octets o one more is = record { added = o ∷ octets; is = is; joined = more ∙ ap (λ l. l ++ octets) one ∙ append_assoc old (o ∷ []) octets }

-- a number below 0 is not that of no digits
pub some_magnitude : (m : ℕ) (z : ℤ) → signed true m ≡ z → z <ℤ pos 0 → 0 < m
some_magnitude zero z is below = let e : pos 0 ≡ z = is in absurd (omega (arith, ints))
some_magnitude (suc m) z is below = omega arith

-- negative numbers: the octets lack the digits to 256^n
high_value : (o : ℕ) (octets : List ℕ) (m : ℕ) → 128 ≤ o → magnitude (o ∷ octets) + m ≡ 256 ^ length (o ∷ octets) → twos_complement (o ∷ octets) ≡ neg_ℤ (pos m)
high_value o octets m high sum =
    ap (λ b. if b then pos (magnitude (o ∷ octets)) else neg_ℤ (pos (256 ^ length (o ∷ octets) - magnitude (o ∷ octets)))) (le-ltb o 128 high)
    ∙ ap (λ k. neg_ℤ (pos k)) (let lacks : 256 ^ length (o ∷ octets) - magnitude (o ∷ octets) ≡ m = omega (arith, sum) in lacks)

not_all_ones : (d o p : ℕ) (digits octets : List ℕ) → 0 < d → length digits ≡ suc (length octets) → magnitude (o ∷ p ∷ octets) + magnitude (d ∷ digits) ≡ 256 ^ length (o ∷ p ∷ octets) → o ≡ 255 → 0 < p → ⊥
not_all_ones d o p digits octets some long sum ones more =
    let P = 256 ^ suc (length octets) in
    let Q = 256 ^ length octets in
    let first : magnitude (o ∷ p ∷ octets) ≡ o * P + magnitude (p ∷ octets) = magnitude-cons o (p ∷ octets) in
    let next : magnitude (p ∷ octets) ≡ p * Q + magnitude octets = magnitude-cons p octets in
    let lead : magnitude (d ∷ digits) ≡ d * P + magnitude digits = magnitude-cons d digits ∙ ap (λ k. d * 256 ^ k + magnitude digits) long in
    let whole : 256 ^ length (o ∷ p ∷ octets) ≡ P * 256 = pow-suc 256 (suc (length octets)) in
    let low : 1 ≤ Q = one-le-pow (length octets) 256 (lit< tt) in
    let second : 1 * Q ≤ p * Q = mul-le-mul_right Q more in
    let third : 1 * P ≤ d * P = mul-le-mul_right P some in
    let fourth : o * P ≡ 255 * P = ap (λ k. k * P) ones in
    omega arith

whole : {digits octets : List ℕ} → IsComplement digits octets → magnitude octets + magnitude digits ≡ 256 ^ length octets
whole is = is.sum ∙ ap (λ k. 256 ^ k) (sym is.as_long)

pub high_negative : (digits octets : List ℕ) → BeginsWithDigit digits → IsComplement digits octets → 128 ≤ get_or octets 0 0 → IsInteger (neg_ℤ (pos (magnitude digits))) octets
high_negative digits [] shortest is high = absurd (omega arith)
high_negative digits (o ∷ []) shortest is high = record { value = high_value o [] (magnitude digits) high (whole is); shortest = tt }
high_negative [] (o ∷ p ∷ octets) shortest is high = absurd (omega (arith, is.as_long))
high_negative (d ∷ digits) (o ∷ p ∷ octets) shortest is high = record {
  value = high_value o (p ∷ octets) (magnitude (d ∷ digits)) high (whole is);
  shortest = (
    (λ e. omega arith),
    λ e. not_all_ones d o p digits octets (some d (λ z. shortest (ap Some z))) (omega (arith, is.as_long)) (whole is) (omega arith) (omega arith),
  );
}
  where
    some : (d : ℕ) → ¬ (d ≡ 0) → 0 < d
    some zero other = absurd (other refl)
    some (suc d) other = omega arith

pub low_negative : (digits octets : List ℕ) → IsComplement digits octets → get_or octets 0 0 < 128 → IsInteger (neg_ℤ (pos (magnitude digits))) (255 ∷ octets)
low_negative digits octets is low = record {
  value = high_value 255 octets (magnitude digits) (omega arith) (let more = magnitude-cons 255 octets in let power = pow-suc 256 (length octets) in let sum = whole is in omega arith);
  shortest = short octets low;
}
  where
    short : (octets : List ℕ) → get_or octets 0 0 < 128 → IsShortest (255 ∷ octets)
    short [] low = tt
    short (p ∷ octets) low = ((λ e. omega arith), λ e. omega arith)

-- The number of octets whose first has bit 8 set.
high_is : (z : ℤ) (octets : List ℕ) → 128 ≤ get_or octets 0 0 → z ≡ neg_ℤ (pos (256 ^ length octets - magnitude octets)) → twos_complement octets ≡ z
high_is z [] high is = absurd (omega arith)
high_is z (o ∷ octets) high is = ap (λ b. if b then pos (magnitude (o ∷ octets)) else neg_ℤ (pos (256 ^ length (o ∷ octets) - magnitude (o ∷ octets)))) (le-ltb o 128 high) ∙ sym is

high_some : (octets : List ℕ) → 128 ≤ get_or octets 0 0 → 0 < magnitude octets
high_some [] high = absurd (omega arith)
high_some (o ∷ octets) high =
    let low : 1 ≤ 256 ^ length octets = one-le-pow (length octets) 256 (lit< tt) in
    let first : 128 * 256 ^ length octets ≤ o * 256 ^ length octets = mul-le-mul_right (256 ^ length octets) high in
    omega (arith, magnitude-cons o octets)

pub negative_only : {E : Type 0} (P : E → Type 0) (octets : List ℕ) (r : Result ℤ E) → 128 ≤ get_or octets 0 0 → IsShortest octets →
    MatchResult r (λ n. 0 < magnitude octets → n ≡ neg_ℤ (pos (256 ^ length octets - magnitude octets))) P → IfOk r (λ n. IsInteger n octets)
negative_only P octets (Ok n) high shortest read = record { value = high_is n octets high (read (high_some octets high)); shortest = shortest }
negative_only P octets (Err e) high shortest read = tt

pub negative_read : {E : Type 0} (P : E → Type 0) (octets : List ℕ) (r : Result ℤ E) (z : ℤ) → 128 ≤ get_or octets 0 0 → IsInteger z octets →
    MatchResult r (λ n. 0 < magnitude octets → n ≡ neg_ℤ (pos (256 ^ length octets - magnitude octets))) P → MatchResult r (λ n. n ≡ z) P
negative_read P octets (Ok n) z high is read = sym (high_is n octets high (read (high_some octets high))) ∙ is.value
negative_read P octets (Err e) z high is read = read

-- all octets were gone through
pub all_negated : (xs ys : List ℕ) (i c : ℕ) → i ≤ 0 → c ≤ 1 → length xs ≡ length ys → magnitude (drop i xs) + magnitude (drop i ys) + c * 256 ^ (length ys - i) ≡ 256 ^ (length ys - i) → 0 < magnitude ys → IsComplement ys xs
all_negated xs ys zero c done bit long sum some = record {
  sum = no_carry (magnitude xs) (magnitude ys) c (256 ^ length ys) (subst (λ k. magnitude xs + magnitude ys + c * 256 ^ k ≡ 256 ^ k) (let all : length ys - 0 ≡ length ys = omega arith in all) sum) bit some;
  as_long = long;
}
all_negated xs ys (suc i) c done bit long sum some = absurd (omega arith)
