-- Identifiers, lengths and numbers to the base 128 have one encoding each.
use Rattle.std.proofs.Common.{◌≡◌, ℕ, zero, suc, ◌+◌, ◌*◌, ◌≤◌, ◌<◌, ◌^◌, Bool, List, [], ◌∷◌, ◌++◌, length, length-append, lit<, refl, sym, ap, ◌∙◌, arith, inl, inr}
use Rattle.std.proofs.Math.Nat.{mul-le-mul_right, pow-le-pow_right, pow-suc}
use Rattle.std.proofs.lemmas.Bool.{cases_order}
use Rattle.std.proofs.lemmas.Int.Digits.{number_lt}
use Rattle.std.specs.Int.Digits.{AllBelowBase, number_from_digits, number_from_digits_after}
use Rattle.std.specs.Prelude.{◌⊎◌, Some, map}
use Rattle.asn1_tags.specs.declared.tags.Tag.{Tag}
use Rattle.asn1_values.proofs.Digits.{digits_of-magnitude}
use Rattle.asn1_values.specs.Numbers.{IsShortest}
use Rattle.asn1_der_items.specs.Base128.{IsBase128}
use Rattle.asn1_der_items.specs.Elements.{IsElement}
use Rattle.asn1_der_items.specs.Identifiers.{IsIdentifier, first_octet}
use Rattle.asn1_der_items.specs.Lengths.{IsLength}

-- digits to the base 128 as octets: bit 8 is 1 in each but the last
abbrev marked : List ℕ → List ℕ
marked [] = []
marked (d ∷ []) = d ∷ []
marked (d ∷ e ∷ digits) = (d + 128) ∷ marked (e ∷ digits)

marked_is : (leading : List ℕ) (last : ℕ) → map (λ d. d + 128) leading ++ last ∷ [] ≡ marked (leading ++ last ∷ [])
marked_is [] last = refl
marked_is (d ∷ []) last = refl
marked_is (d ∷ e ∷ leading) last = ap (λ l. (d + 128) ∷ l) (marked_is (e ∷ leading) last)

-- what was read before counts for as much as its place is worth
after_is : (n : ℕ) (ds : List ℕ) → number_from_digits_after 128 n ds ≡ n * 128 ^ length ds + number_from_digits 128 ds
after_is n [] = omega arith
after_is n (d ∷ ds) = rw pow-suc (omega (arith, after_is (n * 128 + d) ds, after_is (0 * 128 + d) ds))

-- as many digits of one number are the same
abbrev pub Splits : ℕ → Type 0
Splits b = (m n x y : ℕ) → x < b → y < b → m * b + x ≡ n * b + y → (m ≡ n) × (x ≡ y)

pub same_digits : (b : ℕ) → Splits b → (m n : ℕ) (xs ys : List ℕ) → AllBelowBase b xs → AllBelowBase b ys → length xs ≡ length ys → number_from_digits_after b m xs ≡ number_from_digits_after b n ys → (m ≡ n) × (xs ≡ ys)
same_digits b split m n [] [] below low long e = (e, refl)
same_digits b split m n [] (y ∷ ys) below low long e = absurd (omega arith)
same_digits b split m n (x ∷ xs) [] below low long e = absurd (omega arith)
same_digits b split m n (x ∷ xs) (y ∷ ys) below low long e =
    let rest = same_digits b split (m * b + x) (n * b + y) xs ys below.1 low.1 (omega arith) e in
    let first = split m n x y below.0 low.0 rest.0 in
    (first.0, ap (λ d. d ∷ xs) first.1 ∙ ap (λ l. y ∷ l) rest.1)

splits : Splits 128
splits m n x y low below e = (omega arith, omega arith)

-- a longer list of digits that begins with no 0 is a greater number
longer : (xs ys : List ℕ) (y : ℕ) → AllBelowBase 128 xs → length xs ≤ length ys → ¬ (y ≡ 0) → number_from_digits 128 xs < number_from_digits 128 (y ∷ ys)
longer xs ys y below long some =
    let upper : number_from_digits 128 xs < 128 ^ length xs = number_lt 128 xs below in
    let grows : 128 ^ length xs ≤ 128 ^ length ys = pow-le-pow_right (lit< tt) long in
    let lower : 1 * 128 ^ length ys ≤ y * 128 ^ length ys = mul-le-mul_right (128 ^ length ys) (not_zero y some) in
    let whole : number_from_digits 128 (y ∷ ys) ≡ y * 128 ^ length ys + number_from_digits 128 ys = after_is (0 * 128 + y) ys ∙ ap (λ k. k * 128 ^ length ys + number_from_digits 128 ys) (omega arith) in
    omega arith
  where
    not_zero : (y : ℕ) → ¬ (y ≡ 0) → 1 ≤ y
    not_zero zero some = absurd (some refl)
    not_zero (suc y) some = omega arith

-- a number has no encoding that is shorter than another
no_shorter : (n : ℕ) (own other : List ℕ) (a : IsBase128 n own) (b : IsBase128 n other) → length a.leading < length b.leading → ⊥
no_shorter n own other a b less = by b.leading b.shortest less b.value
  where
    by : (leading : List ℕ) → IsShortest leading → length a.leading < length leading → number_from_digits 128 (leading ++ b.last ∷ []) ≡ n → ⊥
    by [] shortest less value = absurd (omega arith)
    by (d ∷ leading) shortest less value =
        let more = longer (a.leading ++ a.last ∷ []) (leading ++ b.last ∷ []) d a.digits (omega (arith, length-append a.leading (a.last ∷ []), length-append leading (b.last ∷ []))) (λ zero. shortest (ap Some zero)) in
        omega (arith, more, value, a.value)

pub one_base128 : (n : ℕ) (own other : List ℕ) → IsBase128 n own → IsBase128 n other → own ≡ other
one_base128 n own other a b = by (cases_order (length a.leading) (length b.leading))
  where
    by_length : length a.leading ≡ length b.leading → own ≡ other
    by_length long =
        let same = same_digits 128 splits 0 0 (a.leading ++ a.last ∷ []) (b.leading ++ b.last ∷ []) a.digits b.digits (omega (arith, long, length-append a.leading (a.last ∷ []), length-append b.leading (b.last ∷ []))) (a.value ∙ sym b.value) in
        a.are ∙ marked_is a.leading a.last ∙ ap marked same.1 ∙ sym (marked_is b.leading b.last) ∙ sym b.are

    by : (length a.leading ≡ length b.leading) ⊎ ((length a.leading < length b.leading) ⊎ (length b.leading < length a.leading)) → own ≡ other
    by (inl long) = by_length long
    by (inr (inl less)) = absurd (no_shorter n own other a b less)
    by (inr (inr more)) = absurd (no_shorter n other own b a more)

-- identifiers
pub one_identifier : (t : Tag) (constructed : Bool) (own other : List ℕ) → IsIdentifier t constructed own → IsIdentifier t constructed other → own ≡ other
one_identifier t constructed own other (inl a) (inl b) = a.are ∙ sym b.are
one_identifier t constructed own other (inl a) (inr b) = absurd (omega (arith, a.below, b.not_low))
one_identifier t constructed own other (inr a) (inl b) = absurd (omega (arith, b.below, a.not_low))
one_identifier t constructed own other (inr a) (inr b) = a.are ∙ ap (λ l. first_octet t.class constructed 31 ∷ l) (one_base128 t.value a.number b.number a.value b.value) ∙ sym b.are

-- lengths
pub one_length : (n : ℕ) (own other : List ℕ) → IsLength n own → IsLength n other → own ≡ other
one_length n own other (inl a) (inl b) = a.are ∙ sym b.are
one_length n own other (inl a) (inr b) = absurd (omega (arith, a.below, b.not_short))
one_length n own other (inr a) (inl b) = absurd (omega (arith, b.below, a.not_short))
one_length n own other (inr a) (inr b) = a.are ∙ ap (λ l. (length l + 128) ∷ l) (sym (digits_of-magnitude a.digits n a.shortest (sym a.value)) ∙ digits_of-magnitude b.digits n b.shortest (sym b.value)) ∙ sym b.are

-- elements of the same contents octets
pub one_element : (t : Tag) (constructed : Bool) (contents own other : List ℕ) → IsElement t constructed contents own → IsElement t constructed contents other → own ≡ other
one_element t constructed contents own other a b =
    a.are ∙ ap (λ l. l ++ (a.size ++ contents)) (one_identifier t constructed a.identifier b.identifier a.is_identifier b.is_identifier)
    ∙ ap (λ l. b.identifier ++ (l ++ contents)) (one_length (length contents) a.size b.size a.is_size b.is_size) ∙ sym b.are
