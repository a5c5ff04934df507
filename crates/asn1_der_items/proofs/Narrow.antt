-- Octets in two's complement without those that tell nothing.
use Rattle.std.proofs.Common.{◌≡◌, ℕ, suc, ◌-◌, ◌*◌, ◌≤◌, ◌<◌, ◌^◌, Bool, true, false, List, [], ◌∷◌, length, take, drop, refl, sym, subst, to_z, of_z, ap, ◌∙◌, arith, negsuc}
use Rattle.std.proofs.Math.Nat.{pow-suc}
use Rattle.std.proofs.lemmas.List.{take_all}
use Rattle.std.proofs.lemmas.Bool.{lt-ltb, le-ltb, ltb-true, ltb-false, eqb-true, eqb-false}
use Rattle.std.specs.Prelude.{nat_eq, nat_lt, ℤ, pos, neg_ℤ, ◌≤ℤ◌, unsigned_abs, All, FitsSigned, if◌then◌else◌}
use Rattle.std.specs.Int.{byte_at, bytes_high_first, w128}
use Rattle.std.proofs.Math.Facts.{Fits-of_z, to_z-neg, to_z-of_z}
use Rattle.std.proofs.lemmas.List.Elements.{All-get_or, All-tail}
use Rattle.std.proofs.lemmas.Int.{ints, to_z_pos}
use Rattle.asn1_values.proofs.Digits.{magnitude-bytes_high_first}
use Rattle.asn1_values.specs.Numbers.{magnitude}
use Rattle.asn1_der_items.specs.Integers.{IsInteger, IsShortest, first_nine_bits, twos_complement}
use Rattle.asn1_der_items.proofs.Complements.{magnitude-cons}

zero_first : (o p : ℕ) (octets : List ℕ) → o ≡ 0 → p < 128 → twos_complement (p ∷ octets) ≡ twos_complement (o ∷ p ∷ octets)
zero_first o p octets zero low =
    ap (λ b. if b then pos (magnitude (p ∷ octets)) else neg_ℤ (pos (256 ^ length (p ∷ octets) - magnitude (p ∷ octets)))) (lt-ltb p 128 low)
    ∙ ap pos (let first = magnitude-cons o (p ∷ octets) in let none : o * 256 ^ length (p ∷ octets) ≡ 0 = ap (λ k. k * 256 ^ length (p ∷ octets)) zero ∙ omega arith in omega arith)
    ∙ sym (ap (λ b. if b then pos (magnitude (o ∷ p ∷ octets)) else neg_ℤ (pos (256 ^ length (o ∷ p ∷ octets) - magnitude (o ∷ p ∷ octets)))) (lt-ltb o 128 (omega (arith, zero))))

ones_first : (o p : ℕ) (octets : List ℕ) → o ≡ 255 → 128 ≤ p → twos_complement (p ∷ octets) ≡ twos_complement (o ∷ p ∷ octets)
ones_first o p octets ones high =
    ap (λ b. if b then pos (magnitude (p ∷ octets)) else neg_ℤ (pos (256 ^ length (p ∷ octets) - magnitude (p ∷ octets)))) (le-ltb p 128 high)
    ∙ ap (λ k. neg_ℤ (pos k)) lacks
    ∙ sym (ap (λ b. if b then pos (magnitude (o ∷ p ∷ octets)) else neg_ℤ (pos (256 ^ length (o ∷ p ∷ octets) - magnitude (o ∷ p ∷ octets)))) (le-ltb o 128 (omega (arith, ones))))
  where
    lacks : 256 ^ length (p ∷ octets) - magnitude (p ∷ octets) ≡ 256 ^ length (o ∷ p ∷ octets) - magnitude (o ∷ p ∷ octets)
    lacks =
        let first = magnitude-cons o (p ∷ octets) in
        let power : 256 ^ length (o ∷ p ∷ octets) ≡ 256 ^ length (p ∷ octets) * 256 = pow-suc 256 (length (p ∷ octets)) in
        let most : o * 256 ^ length (p ∷ octets) ≡ 255 * 256 ^ length (p ∷ octets) = ap (λ k. k * 256 ^ length (p ∷ octets)) ones in
        omega arith

-- an octet that is one more than there need be
spare : (o p : ℕ) (octets : List ℕ) → p < 256 → ¬ IsShortest (o ∷ p ∷ octets) → twos_complement (p ∷ octets) ≡ twos_complement (o ∷ p ∷ octets)
spare o p octets next long = by_zero (nat_eq (first_nine_bits o p) 0) refl
  where
    by_ones : (b : Bool) → nat_eq (first_nine_bits o p) 0 ≡ false → nat_eq (first_nine_bits o p) 511 ≡ b → twos_complement (p ∷ octets) ≡ twos_complement (o ∷ p ∷ octets)
    by_ones true not_zero e = let is = eqb-true (first_nine_bits o p) 511 e in ones_first o p octets (omega (arith, is)) (omega (arith, is))
    by_ones false not_zero e = absurd (long ((λ is. eqb-false (first_nine_bits o p) 0 not_zero is), λ is. eqb-false (first_nine_bits o p) 511 e is))

    by_zero : (b : Bool) → nat_eq (first_nine_bits o p) 0 ≡ b → twos_complement (p ∷ octets) ≡ twos_complement (o ∷ p ∷ octets)
    by_zero true e = let is = eqb-true (first_nine_bits o p) 0 e in zero_first o p octets (omega (arith, is)) (omega (arith, is))
    by_zero false e = by_ones (nat_eq (first_nine_bits o p) 511) e refl

-- The octets after the first, if there are more than need be, are the same number.
pub record IsSame (tail octets : List ℕ) : Type 0 where
  pub same : twos_complement tail ≡ twos_complement octets
  pub some : 0 < length tail
  pub are_octets : All (λ o. o < 256) tail

pub spare_dropped : (rest octets : List ℕ) → 1 ≤ length rest → All (λ o. o < 256) rest → ¬ IsShortest rest → twos_complement rest ≡ twos_complement octets → IsSame (take (length rest - 1) (drop 1 rest)) octets
spare_dropped [] octets some below long same = absurd (omega arith)
spare_dropped (o ∷ []) octets some below long same = absurd (long tt)
spare_dropped (o ∷ p ∷ rest) octets some below long same =
    let whole : take (length (o ∷ p ∷ rest) - 1) (p ∷ rest) ≡ p ∷ rest = take_all (length (o ∷ p ∷ rest) - 1) (p ∷ rest) (omega arith) in
    record {
      same = ap twos_complement whole ∙ spare o p rest (All-get_or (λ o. o < 256) (o ∷ p ∷ rest) 1 0 (omega arith) below) long ∙ same;
      some = omega (arith, ap length whole);
      are_octets = subst (All (λ o. o < 256)) (sym whole) (All-tail (λ o. o < 256) o (p ∷ rest) below);
    }

-- a number of 128 bits, in sixteen octets
sixteen : (n : ℕ) → n < 2 ^ 128 → twos_complement (bytes_high_first 16 n) ≡ to_z w128 n
sixteen n fits = by (nat_lt n (2 ^ 127)) refl
  where
    value : magnitude (bytes_high_first 16 n) ≡ n
    value = magnitude-bytes_high_first 16 n (omega (arith, fits))

    by : (b : Bool) → nat_lt n (2 ^ 127) ≡ b → twos_complement (bytes_high_first 16 n) ≡ to_z w128 n
    by true e =
        let low : n < 2 ^ 127 = ltb-true n (2 ^ 127) e in
        ap (λ b. if b then pos (magnitude (bytes_high_first 16 n)) else neg_ℤ (pos (256 ^ 16 - magnitude (bytes_high_first 16 n)))) (lt-ltb (byte_at 15 n) 128 (omega (arith, low)))
        ∙ ap pos value ∙ sym (to_z_pos w128 n low)
    by false e =
        let high : 2 ^ 127 ≤ n = ltb-false n (2 ^ 127) e in
        let lacks : 2 ^ 128 - n - 1 < 2 ^ 127 = omega (arith, high, fits) in
        let back : 2 ^ 128 - suc (2 ^ 128 - n - 1) ≡ n = omega (arith, fits) in
        let less : 256 ^ 16 - n ≡ suc (2 ^ 128 - n - 1) = omega (arith, fits) in
        ap (λ b. if b then pos (magnitude (bytes_high_first 16 n)) else neg_ℤ (pos (256 ^ 16 - magnitude (bytes_high_first 16 n)))) (le-ltb (byte_at 15 n) 128 (omega (arith, high, fits)))
        ∙ ap (λ k. neg_ℤ (pos (256 ^ 16 - k))) value ∙ ap (λ k. neg_ℤ (pos k)) less ∙ sym (ap (to_z w128) (sym back) ∙ to_z-neg w128 (2 ^ 128 - n - 1) lacks)

pub least : (z : ℤ) (octets own : List ℕ) → FitsSigned w128 z → octets ≡ bytes_high_first 16 (of_z w128 z) → twos_complement own ≡ twos_complement octets → (0 < length octets → IsShortest own) → IsInteger z own
least z octets own fits are same shortest = record {
  value = same ∙ ap twos_complement are ∙ sixteen (of_z w128 z) (Fits-of_z fits).fits ∙ to_z-of_z fits;
  shortest = shortest (omega (arith, ap length are));
}

-- a number below 2^32, in four octets after a zero
pub least_small : (z : ℤ) (n : ℕ) (octets own : List ℕ) → n < 2 ^ 32 → pos n ≡ z → octets ≡ 0 ∷ bytes_high_first 4 n → twos_complement own ≡ twos_complement octets → (0 < length octets → IsShortest own) → IsInteger z own
least_small z n octets own fits is are same shortest =
    let digits = bytes_high_first 4 n in
    let none : 0 * 256 ^ length digits ≡ 0 = omega arith in
    let value : magnitude (0 ∷ digits) ≡ n = omega (arith, magnitude-cons 0 digits, none, magnitude-bytes_high_first 4 n (omega (arith, fits))) in
    record {
      value = same ∙ ap twos_complement are ∙ ap pos value ∙ is;
      shortest = shortest (omega (arith, ap length are));
    }

-- what a number that is not negative is, as a size
pub not_negative : (z : ℤ) (n : ℕ) → pos 0 ≤ℤ z → n ≡ unsigned_abs z → pos n ≡ z
not_negative (pos m) n low is = ap pos is
not_negative (negsuc m) n low is = absurd (omega (arith, ints))
