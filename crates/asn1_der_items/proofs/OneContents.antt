-- A content has no more than one encoding, in octets.
use Rattle.std.proofs.Common.{◌≡◌, ℕ, zero, suc, ◌+◌, ◌-◌, ◌*◌, ◌≤◌, ◌<◌, ◌^◌, Bool, true, false, List, [], ◌∷◌, ◌++◌, length, lit<, refl, sym, ap, subst, ◌∙◌, arith, inl, inr}
use Rattle.std.proofs.Math.Nat.{mul-le-mul_right, pow-le-pow_right, pow-suc}
use Rattle.std.proofs.lemmas.Bool.{cases_order, ltb-true, ltb-false, lt-ltb, le-ltb}
use Rattle.std.proofs.lemmas.Int.Digits.{number_lt}
use Rattle.std.proofs.lemmas.List.Elements.{All-contains}
use Rattle.std.specs.Int.Digits.{AllBelowBase}
use Rattle.std.specs.Prelude.{ℤ, pos, neg_ℤ, ◌⊎◌, nat_lt, if◌then◌else◌}
use Rattle.asn1_model.specs.Records.{Content, StringKind, null, boolean, number, discriminant, arcs, bits, units, octet, utf8, visible, general, graphic, ia5, printable, numeric, teletex, bmp}
use Rattle.asn1_items.proofs.OneBits.{one_bits}
use Rattle.asn1_values.specs.Numbers.{magnitude}
use Rattle.asn1_der_items.specs.Arcs.{AreArcs, AreNumbers, HaveNoOctets}
use Rattle.asn1_der_items.specs.Contents.{AreUnits, HasContents, HasNoContents}
use Rattle.asn1_der_items.specs.Integers.{IsInteger, IsShortest, first_nine_bits, twos_complement}
use Rattle.asn1_der_items.proofs.Complements.{magnitude-cons}
use Rattle.asn1_der_items.proofs.Encodings.{Splits, one_base128, same_digits}

-- parts of octets are octets
pub below_first : (b : ℕ) (xs ys : List ℕ) → AllBelowBase b (xs ++ ys) → AllBelowBase b xs
below_first b [] ys below = tt
below_first b (x ∷ xs) ys below = (below.0, below_first b xs ys below.1)

pub below_later : (b : ℕ) (xs ys : List ℕ) → AllBelowBase b (xs ++ ys) → AllBelowBase b ys
below_later b [] ys below = below
below_later b (x ∷ xs) ys below = below_later b xs ys below.1

-- integers: how large the number is that some octets are, where bit 8 of the first is 0 and where it is 1
abbrev lacks : List ℕ → ℕ
lacks octets = 256 ^ length octets - magnitude octets

low_most : (o : ℕ) (os : List ℕ) → AllBelowBase 256 os → o < 128 → 2 * magnitude (o ∷ os) < 256 ^ length (o ∷ os)
low_most o os below low =
    let rest : magnitude os < 256 ^ length os = number_lt 256 os below in
    let first : o * 256 ^ length os ≤ 127 * 256 ^ length os = mul-le-mul_right (256 ^ length os) (omega arith) in
    omega (arith, rest, first, magnitude-cons o os, pow-suc 256 (length os))

high_most : (o : ℕ) (os : List ℕ) → 128 ≤ o → 2 * lacks (o ∷ os) ≤ 256 ^ length (o ∷ os)
high_most o os high =
    let first : 128 * 256 ^ length os ≤ o * 256 ^ length os = mul-le-mul_right (256 ^ length os) high in
    omega (arith, first, magnitude-cons o os, pow-suc 256 (length os))

low_least : (o p : ℕ) (os : List ℕ) → p < 256 → IsShortest (o ∷ p ∷ os) → 256 ^ length (p ∷ os) ≤ 2 * magnitude (o ∷ p ∷ os)
low_least zero p os below shortest =
    let R = 256 ^ length os in
    let high : 128 ≤ p = high_bit p below shortest.0 in
    let second : 128 * R ≤ p * R = mul-le-mul_right R high in
    omega (arith, second, magnitude-cons 0 (p ∷ os), magnitude-cons p os, pow-suc 256 (length os))
  where
    high_bit : (p : ℕ) → p < 256 → ¬ (first_nine_bits 0 p ≡ 0) → 128 ≤ p
    high_bit p below some = by (nat_lt p 128) refl
      where
        by : (b : Bool) → nat_lt p 128 ≡ b → 128 ≤ p
        by true e = let low = ltb-true p 128 e in absurd (some (omega (arith, low)))
        by false e = ltb-false p 128 e
low_least (suc o) p os below shortest =
    let P = 256 ^ length (p ∷ os) in
    let first : 1 * P ≤ suc o * P = mul-le-mul_right P (omega arith) in
    omega (arith, first, magnitude-cons (suc o) (p ∷ os))

high_least : (o p : ℕ) (os : List ℕ) → o < 256 → AllBelowBase 256 (p ∷ os) → IsShortest (o ∷ p ∷ os) → 256 ^ length (p ∷ os) < 2 * lacks (o ∷ p ∷ os)
high_least o p os byte below shortest = by (nat_lt o 255) refl
  where
    last : magnitude os < 256 ^ length os
    last = number_lt 256 os below.1

    low_bit : o ≡ 255 → p < 128
    low_bit ones = by_bit (nat_lt p 128) refl
      where
        by_bit : (b : Bool) → nat_lt p 128 ≡ b → p < 128
        by_bit true e = ltb-true p 128 e
        by_bit false e = let high = ltb-false p 128 e in absurd (shortest.1 (omega (arith, high, below.0, ones)))

    by : (b : Bool) → nat_lt o 255 ≡ b → 256 ^ length (p ∷ os) < 2 * lacks (o ∷ p ∷ os)
    by true e =
        let few = ltb-true o 255 e in
        let rest : magnitude (p ∷ os) < 256 ^ length (p ∷ os) = number_lt 256 (p ∷ os) below in
        let first : o * 256 ^ length (p ∷ os) ≤ 254 * 256 ^ length (p ∷ os) = mul-le-mul_right (256 ^ length (p ∷ os)) (omega (arith, few)) in
        omega (arith, rest, first, magnitude-cons o (p ∷ os), pow-suc 256 (length (p ∷ os)))
    by false e =
        let many = ltb-false o 255 e in
        let ones : o ≡ 255 = omega (arith, many, byte) in
        let low = low_bit ones in
        let second : p * 256 ^ length os ≤ 127 * 256 ^ length os = mul-le-mul_right (256 ^ length os) (omega (arith, low)) in
        let first : o * 256 ^ length (p ∷ os) ≡ 255 * 256 ^ length (p ∷ os) = ap (λ k. k * 256 ^ length (p ∷ os)) ones in
        omega (arith, last, second, first, magnitude-cons o (p ∷ os), magnitude-cons p os, pow-suc 256 (length (p ∷ os)), pow-suc 256 (length os))

-- fewer octets are a smaller number
low_apart : (x : ℕ) (xs : List ℕ) (y : ℕ) (ys : List ℕ) → AllBelowBase 256 (x ∷ xs) → AllBelowBase 256 (y ∷ ys) → x < 128 → IsShortest (y ∷ ys) → length xs < length ys → magnitude (x ∷ xs) ≡ magnitude (y ∷ ys) → ⊥
low_apart x xs y [] below more low shortest less same = absurd (omega arith)
low_apart x xs y (p ∷ ys) below more low shortest less same =
    let grows : 256 ^ length (x ∷ xs) ≤ 256 ^ length (p ∷ ys) = pow-le-pow_right (lit< tt) (omega (arith, less)) in
    omega (arith, grows, low_most x xs below.1 low, low_least y p ys more.1.0 shortest, same)

high_apart : (x : ℕ) (xs : List ℕ) (y : ℕ) (ys : List ℕ) → AllBelowBase 256 (y ∷ ys) → 128 ≤ x → IsShortest (y ∷ ys) → length xs < length ys → lacks (x ∷ xs) ≡ lacks (y ∷ ys) → ⊥
high_apart x xs y [] more high shortest less same = absurd (omega arith)
high_apart x xs y (p ∷ ys) more high shortest less same =
    let grows : 256 ^ length (x ∷ xs) ≤ 256 ^ length (p ∷ ys) = pow-le-pow_right (lit< tt) (omega (arith, less)) in
    omega (arith, grows, high_most x xs high, high_least y p ys more.0 more.1 shortest, same)

splits : Splits 256
splits m n x y low below e = (omega arith, omega arith)

as_long : (xs ys : List ℕ) → AllBelowBase 256 xs → AllBelowBase 256 ys → length xs ≡ length ys → magnitude xs ≡ magnitude ys → xs ≡ ys
as_long xs ys below more long same = (same_digits 256 splits 0 0 xs ys below more long same).1

low_value : (o : ℕ) (os : List ℕ) → o < 128 → twos_complement (o ∷ os) ≡ pos (magnitude (o ∷ os))
low_value o os low = ap (λ b. if b then pos (magnitude (o ∷ os)) else neg_ℤ (pos (lacks (o ∷ os)))) (lt-ltb o 128 low)

high_value : (o : ℕ) (os : List ℕ) → 128 ≤ o → twos_complement (o ∷ os) ≡ neg_ℤ (pos (lacks (o ∷ os)))
high_value o os high = ap (λ b. if b then pos (magnitude (o ∷ os)) else neg_ℤ (pos (lacks (o ∷ os)))) (le-ltb o 128 high)

pos_same : (m n : ℕ) → pos m ≡ pos n → m ≡ n
pos_same m n e = cc

neg_same : (m n : ℕ) → neg_ℤ (pos m) ≡ neg_ℤ (pos n) → m ≡ n
neg_same zero zero e = refl
neg_same zero (suc n) e = cc
neg_same (suc m) zero e = cc
neg_same (suc m) (suc n) e = cc

other_sign : (m n : ℕ) → 0 < n → pos m ≡ neg_ℤ (pos n) → ⊥
other_sign m zero some e = absurd (omega arith)
other_sign m (suc n) some e = cc

some_lacks : (octets : List ℕ) → AllBelowBase 256 octets → 0 < lacks octets
some_lacks octets below = omega (arith, number_lt 256 octets below)

pub one_integer : (z : ℤ) (own other : List ℕ) → AllBelowBase 256 own → AllBelowBase 256 other → IsInteger z own → IsInteger z other → own ≡ other
one_integer z [] other below more a b = absurd a.shortest
one_integer z (x ∷ xs) [] below more a b = absurd b.shortest
one_integer z (x ∷ xs) (y ∷ ys) below more a b = by (nat_lt x 128) (nat_lt y 128) refl refl
  where
    by_low : x < 128 → y < 128 → magnitude (x ∷ xs) ≡ magnitude (y ∷ ys) → (length xs ≡ length ys) ⊎ ((length xs < length ys) ⊎ (length ys < length xs)) → x ∷ xs ≡ y ∷ ys
    by_low p q same (inl long) = as_long (x ∷ xs) (y ∷ ys) below more (omega (arith, long)) same
    by_low p q same (inr (inl less)) = absurd (low_apart x xs y ys below more p b.shortest less same)
    by_low p q same (inr (inr less)) = absurd (low_apart y ys x xs more below q a.shortest less (sym same))

    by_high : 128 ≤ x → 128 ≤ y → lacks (x ∷ xs) ≡ lacks (y ∷ ys) → (length xs ≡ length ys) ⊎ ((length xs < length ys) ⊎ (length ys < length xs)) → x ∷ xs ≡ y ∷ ys
    by_high p q same (inl long) =
        let power : 256 ^ length (x ∷ xs) ≡ 256 ^ length (y ∷ ys) = ap (λ k. 256 ^ suc k) long in
        as_long (x ∷ xs) (y ∷ ys) below more (omega (arith, long)) (omega (arith, same, power, number_lt 256 (x ∷ xs) below, number_lt 256 (y ∷ ys) more))
    by_high p q same (inr (inl less)) = absurd (high_apart x xs y ys more p b.shortest less same)
    by_high p q same (inr (inr less)) = absurd (high_apart y ys x xs below q a.shortest less (sym same))

    by : (p q : Bool) → nat_lt x 128 ≡ p → nat_lt y 128 ≡ q → x ∷ xs ≡ y ∷ ys
    by true true e f =
        let p = ltb-true x 128 e in
        let q = ltb-true y 128 f in
        by_low p q (pos_same _ _ (sym (low_value x xs p) ∙ a.value ∙ sym b.value ∙ low_value y ys q)) (cases_order (length xs) (length ys))
    by false false e f =
        let p = ltb-false x 128 e in
        let q = ltb-false y 128 f in
        by_high p q (neg_same _ _ (sym (high_value x xs p) ∙ a.value ∙ sym b.value ∙ high_value y ys q)) (cases_order (length xs) (length ys))
    by true false e f = absurd (other_sign _ _ (some_lacks (y ∷ ys) more) (sym (low_value x xs (ltb-true x 128 e)) ∙ a.value ∙ sym b.value ∙ high_value y ys (ltb-false y 128 f)))
    by false true e f = absurd (other_sign _ _ (some_lacks (x ∷ xs) below) (sym (low_value y ys (ltb-true y 128 f)) ∙ b.value ∙ sym a.value ∙ high_value x xs (ltb-false x 128 e)))

-- arcs
one_numbers : (numbers own other : List ℕ) → AreNumbers numbers own → AreNumbers numbers other → own ≡ other
one_numbers [] own other a b = a ∙ sym b
one_numbers (n ∷ numbers) own other a b =
    a.are ∙ ap (λ l. l ++ a.others) (one_base128 n a.first b.first a.is_first b.is_first) ∙ ap (λ l. b.first ++ l) (one_numbers numbers a.others b.others a.are_others b.are_others) ∙ sym b.are

-- the numbers of some arcs
abbrev numbers_of : List ℕ → List ℕ
numbers_of [] = []
numbers_of (first ∷ []) = []
numbers_of (first ∷ second ∷ rest) = (first * 40 + second) ∷ rest

one_arcs : (list own other : List ℕ) → AreArcs list own → AreArcs list other → own ≡ other
one_arcs list own other a b = one_numbers ((a.first * 40 + a.second) ∷ a.rest) own other a.numbers (subst (λ l. AreNumbers l other) (ap numbers_of (sym b.are ∙ a.are)) b.numbers)

one_units : (kind : StringKind) (list own other : List ℕ) → AreUnits kind list own → AreUnits kind list other → own ≡ other
one_units octet list own other a b = a ∙ sym b
one_units utf8 list own other a b = a ∙ sym b
one_units visible list own other a b = a ∙ sym b
one_units general list own other a b = a ∙ sym b
one_units graphic list own other a b = a ∙ sym b
one_units ia5 list own other a b = a ∙ sym b
one_units printable list own other a b = a ∙ sym b
one_units numeric list own other a b = a ∙ sym b
one_units teletex list own other a b = a.are ∙ sym b.are
one_units bmp list own other a b = a.are ∙ sym b.are

pub one_contents : (x : Content) (own other : List ℕ) → AllBelowBase 256 own → AllBelowBase 256 other → HasContents x own → HasContents x other → own ≡ other
one_contents null own other below more a b = a ∙ sym b
one_contents (boolean v) own other below more a b = a ∙ sym b
one_contents (number z) own other below more a b = one_integer z own other below more a b
one_contents (discriminant labels z) own other below more a b = one_integer z own other below more a.0 b.0
one_contents (arcs list) own other below more a b = one_arcs list own other a b
one_contents (bits list) own other below more a b = one_bits list own other below more a b
one_contents (units kind list) own other below more a b = one_units kind list own other a b

-- No content has contents octets and has none.
no_arcs : (list own : List ℕ) → AreArcs list own → HaveNoOctets list → ⊥
no_arcs list own a none = by (subst HaveNoOctets a.are none)
  where
    by : HaveNoOctets (a.first ∷ a.second ∷ a.rest) → ⊥
    by (inl large) = omega (arith, large, a.first_of_three)
    by (inr (small, large)) = omega (arith, large, a.second_below small)

no_units : (kind : StringKind) (list own : List ℕ) → AreUnits kind list own → HasNoContents (units kind list) → ⊥
no_units teletex list own a none = omega (arith, none.above, All-contains (λ unit. unit < 256) list none.unit a.fit none.among)
no_units octet list own a none = none
no_units utf8 list own a none = none
no_units visible list own a none = none
no_units general list own a none = none
no_units graphic list own a none = none
no_units ia5 list own a none = none
no_units printable list own a none = none
no_units numeric list own a none = none
no_units bmp list own a none = none

pub not_both : (x : Content) (own : List ℕ) → HasContents x own → HasNoContents x → ⊥
not_both null own a none = none
not_both (boolean v) own a none = none
not_both (number z) own a none = none
not_both (discriminant labels z) own a none = none
not_both (arcs list) own a none = no_arcs list own a none
not_both (bits list) own a none = none
not_both (units kind list) own a none = no_units kind list own a none
