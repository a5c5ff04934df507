-- The contents of a REAL are those of its parts.
use Rattle.std.proofs.Common.{◌≡◌, ◌⊎◌, ◌↔◌, ℕ, ◌<◌, ◌≤◌, Bool, true, false, List, [], ◌∷◌, ◌++◌, length, take, drop, refl, sym, ap, subst, ◌∙◌, inl, inr, arith, lit<}
use Rattle.std.proofs.lemmas.Bool.{false≢true}
use Rattle.std.proofs.lemmas.Bool.Decides.{nat_tests}
use Rattle.std.proofs.lemmas.Grind.{common_steps}
use Rattle.std.specs.Prelude.{IsTrue, ◌&&◌, ◌||◌, ◌==◌, not, nat_lt, if◌then◌else◌}
use Rattle.std.specs.Int.Digits.{AllBelowBase}
use Rattle.asn1_contents.specs.Digits.{are_digits, is_digit}
use Rattle.asn1_contents.specs.Reals.{IsReal, IsBinary, IsDecimal, IsMantissa, is_real, is_special, is_decimal, is_unsigned, goes_on, is_exponent, is_power, is_nonzero_digit, has_parts, has_long_exponent, is_shortest, is_odd_number, head_of, binary, last_of}
use Rattle.asn1_contents.proofs.Days.{both, and}

-- a choice that is true: its test is, and what it then is; or it is not, and what it else is
chosen : (b x y : Bool) → (if b then x else y) ≡ true → ((b ≡ true) × (x ≡ true)) ⊎ ((b ≡ false) × (y ≡ true))
chosen true x y e = inl (refl, e)
chosen false x y e = inr (refl, e)

-- one of two that is true
one : (a b : Bool) → (a || b) ≡ true → (a ≡ true) ⊎ (b ≡ true)
one true b e = inl refl
one false b e = inr e

-- equal numbers
same : (a b : ℕ) → (a == b) ≡ true → a ≡ b
same a b e = grind (arith, nat_tests, e)

-- the parts of a list
joined : (n : ℕ) (xs : List ℕ) → take n xs ++ drop n xs ≡ xs
joined n xs = grind (arith, common_steps)

long_enough : (n : ℕ) (xs : List ℕ) → n < length xs → length (take n xs) ≡ n
long_enough n xs less = grind (arith, common_steps, less)

-- octets behind a head are an exponent of so many and a mantissa
with_head : (is_negative : Bool) (count : ℕ) (front rest : List ℕ) → head_of is_negative count ≡ front → 0 < count → count < 256 →
    has_parts count rest ≡ true → IsBinary (front ++ rest)
with_head is_negative count front rest head some short parts = record {
  is_negative = is_negative;
  exponent = take count rest;
  mantissa = drop count rest;
  some = subst (λ n. 0 < n) (sym len) some;
  short = subst (λ n. n < 256) (sym len) short;
  shortest = both-parts.0;
  odd = both-parts.1;
  are = (λ i. sym head i ++ sym (joined count rest) i) ∙ ap (λ n. head_of is_negative n ++ (take count rest ++ drop count rest)) (sym len);
}
  where
    less : count < length rest
    less = grind (arith, nat_tests, both, parts)

    len : length (take count rest) ≡ count
    len = long_enough count rest less

    both-parts : (is_shortest (take count rest) ≡ true) × (is_odd_number (drop count rest) ≡ true)
    both-parts = both (is_shortest (take count rest)) (is_odd_number (drop count rest)) (grind (arith, nat_tests, both, parts))

-- the head of a long exponent
long_head : (is_negative : Bool) (count : ℕ) → 4 ≤ count → head_of is_negative count ≡ (if is_negative then 195 else 131) ∷ count ∷ []
long_head is_negative count many = grind (arith, nat_tests, many)

pub with_long : (is_negative : Bool) (rest : List ℕ) → AllBelowBase 256 rest → has_long_exponent rest ≡ true →
    IsBinary ((if is_negative then 195 else 131) ∷ rest)
with_long is_negative [] fit e = absurd (false≢true e)
with_long is_negative (count ∷ rest) fit e =
    with_head is_negative count ((if is_negative then 195 else 131) ∷ count ∷ []) rest (long_head is_negative count many) (grind (arith, many)) fit.0
    (both (not (nat_lt count 4)) (has_parts count rest) e).1
  where
    many : 4 ≤ count
    many = grind (arith, nat_tests, (both (not (nat_lt count 4)) (has_parts count rest) e).0)

-- the rest of a mantissa, and what follows it
abbrev Rest : ℕ → List ℕ → Type 0
Rest digit octets =
    (rest : List ℕ) × (power : List ℕ) × (octets ≡ rest ++ (46 ∷ 69 ∷ power)) × (are_digits rest ≡ true) × ((last_of digit rest == 48) ≡ false) × (is_power power ≡ true)

at_power : (octets : List ℕ) → is_exponent octets ≡ true → (power : List ℕ) × (octets ≡ 69 ∷ power) × (is_power power ≡ true)
at_power [] e = absurd (false≢true e)
at_power (o ∷ power) e = (power, ap (λ n. n ∷ power) (same o 69 (both (o == 69) (is_power power) e).0), (both (o == 69) (is_power power) e).1)

is_false : (b : Bool) → not b ≡ true → b ≡ false
is_false true e = sym e
is_false false e = refl

stopped : (digit o : ℕ) (octets : List ℕ) → o ≡ 46 → (not (digit == 48) && is_exponent octets) ≡ true → Rest digit (o ∷ octets)
stopped digit o octets full e =
    (let p = both (not (digit == 48)) (is_exponent octets) e in
    let power = at_power octets p.1 in
    ([], power.0, (λ i. full i ∷ power.1 i), refl, is_false (digit == 48) p.0, power.2))

went_on : (digit o : ℕ) (octets : List ℕ) → is_digit o ≡ true → Rest o octets → Rest digit (o ∷ octets)
went_on digit o octets d more =
    (o ∷ more.0, more.1, ap (λ l. o ∷ l) more.2, and (is_digit o) (are_digits more.0) d more.3, more.4, more.5)

by_choice : (digit o : ℕ) (octets : List ℕ) → (goes_on o octets ≡ true → Rest o octets) →
    (((o == 46) ≡ true) × ((not (digit == 48) && is_exponent octets) ≡ true)) ⊎ (((o == 46) ≡ false) × ((is_digit o && goes_on o octets) ≡ true)) →
    Rest digit (o ∷ octets)
by_choice digit o octets more (inl found) = stopped digit o octets (same o 46 found.0) found.1
by_choice digit o octets more (inr other) =
    went_on digit o octets (both (is_digit o) (goes_on o octets) other.1).0 (more (both (is_digit o) (goes_on o octets) other.1).1)

pub mantissa_of : (digit : ℕ) (octets : List ℕ) → goes_on digit octets ≡ true → Rest digit octets
mantissa_of digit [] e = absurd (false≢true e)
mantissa_of digit (o ∷ octets) e =
    by_choice digit o octets (mantissa_of o octets) (chosen (o == 46) (not (digit == 48) && is_exponent octets) (is_digit o && goes_on o octets) e)

-- a text without a hyphen, and what a text with one has behind it
abbrev Unsigned : List ℕ → Type 0
Unsigned text = (mantissa : List ℕ) × (power : List ℕ) × IsMantissa mantissa × (is_power power ≡ true) × (text ≡ mantissa ++ (46 ∷ 69 ∷ power))

unsigned_of : (text : List ℕ) → is_unsigned text ≡ true → Unsigned text
unsigned_of [] e = absurd (false≢true e)
unsigned_of (o ∷ octets) e =
    (let p = both (is_nonzero_digit o) (goes_on o octets) e in
    let more = mantissa_of o octets p.1 in
    (o ∷ more.0, more.1, record { first = o; rest = more.0; are = refl; begins = p.0; digits = more.3; ends = more.4 }, more.5, ap (λ l. o ∷ l) more.2))

decimal_of : (text : List ℕ) → is_decimal text ≡ true → IsDecimal text
decimal_of [] e = absurd (false≢true e)
decimal_of (o ∷ octets) e = signed (chosen (o == 45) (is_unsigned octets) (is_unsigned (o ∷ octets)) e)
  where
    signed : (((o == 45) ≡ true) × (is_unsigned octets ≡ true)) ⊎ (((o == 45) ≡ false) × (is_unsigned (o ∷ octets) ≡ true)) → IsDecimal (o ∷ octets)
    signed (inl found) = (let own = unsigned_of octets found.1 in
        record { mantissa = own.0; power = own.1; is_mantissa = own.2; is_power = own.3; are = inr (λ i. same o 45 found.0 i ∷ own.4 i) })
    signed (inr other) = (let own = unsigned_of (o ∷ octets) other.1 in
        record { mantissa = own.0; power = own.1; is_mantissa = own.2; is_power = own.3; are = inl own.4 })

-- a head with a short exponent
short_of : (positive negative first count : ℕ) (rest : List ℕ) →
    head_of false count ≡ positive ∷ [] → head_of true count ≡ negative ∷ [] → 0 < count → count < 256 →
    ((first == positive) || (first == negative)) ≡ true → has_parts count rest ≡ true → IsBinary (first ∷ rest)
short_of positive negative first count rest plus minus some short e parts = signed (one (first == positive) (first == negative) e)
  where
    signed : ((first == positive) ≡ true) ⊎ ((first == negative) ≡ true) → IsBinary (first ∷ rest)
    signed (inl is) = subst (λ n. IsBinary (n ∷ rest)) (sym (same first positive is)) (with_head false count (positive ∷ []) rest plus some short parts)
    signed (inr is) = subst (λ n. IsBinary (n ∷ rest)) (sym (same first negative is)) (with_head true count (negative ∷ []) rest minus some short parts)

long_of : (first : ℕ) (rest : List ℕ) → AllBelowBase 256 rest → ((first == 131) || (first == 195)) ≡ true → has_long_exponent rest ≡ true → IsBinary (first ∷ rest)
long_of first rest fit e long = signed (one (first == 131) (first == 195) e)
  where
    signed : ((first == 131) ≡ true) ⊎ ((first == 195) ≡ true) → IsBinary (first ∷ rest)
    signed (inl is) = subst (λ n. IsBinary (n ∷ rest)) (sym (same first 131 is)) (with_long false rest fit long)
    signed (inr is) = subst (λ n. IsBinary (n ∷ rest)) (sym (same first 195 is)) (with_long true rest fit long)

alone_of : (first : ℕ) (rest : List ℕ) → is_special first ≡ true → (length rest == 0) ≡ true → IsReal (first ∷ rest)
alone_of first [] special e = inr (inl (first, special, refl))
alone_of first (o ∷ rest) special e = absurd (grind (arith, nat_tests, e))

pub real_of : (octets : List ℕ) → AllBelowBase 256 octets → IsTrue (is_real octets) → IsReal octets
real_of [] fit e = inl refl
real_of (first ∷ rest) fit e = of_three (chosen (first == 3) (is_decimal rest) (if is_special first then length rest == 0 else (if (first == 128) || (first == 192) then has_parts 1 rest else (if (first == 129) || (first == 193) then has_parts 2 rest else (if (first == 130) || (first == 194) then has_parts 3 rest else (if (first == 131) || (first == 195) then has_long_exponent rest else false))))) e)
  where
    of_long : ((((first == 131) || (first == 195)) ≡ true) × (has_long_exponent rest ≡ true)) ⊎ ((((first == 131) || (first == 195)) ≡ false) × (false ≡ true)) → IsReal (first ∷ rest)
    of_long (inl is) = inr (inr (inl (long_of first rest fit.1 is.0 is.1)))
    of_long (inr else_it) = absurd (false≢true else_it.1)

    of_third : ((((first == 130) || (first == 194)) ≡ true) × ((has_parts 3 rest) ≡ true)) ⊎ ((((first == 130) || (first == 194)) ≡ false) × ((if (first == 131) || (first == 195) then has_long_exponent rest else false) ≡ true)) → IsReal (first ∷ rest)
    of_third (inl is) = inr (inr (inl (short_of 130 194 first 3 rest refl refl (lit< tt) (lit< tt) is.0 is.1)))
    of_third (inr else_it) = of_long (chosen ((first == 131) || (first == 195)) (has_long_exponent rest) false else_it.1)

    of_second : ((((first == 129) || (first == 193)) ≡ true) × ((has_parts 2 rest) ≡ true)) ⊎ ((((first == 129) || (first == 193)) ≡ false) × ((if (first == 130) || (first == 194) then has_parts 3 rest else (if (first == 131) || (first == 195) then has_long_exponent rest else false)) ≡ true)) → IsReal (first ∷ rest)
    of_second (inl is) = inr (inr (inl (short_of 129 193 first 2 rest refl refl (lit< tt) (lit< tt) is.0 is.1)))
    of_second (inr else_it) = of_third (chosen ((first == 130) || (first == 194)) (has_parts 3 rest) (if (first == 131) || (first == 195) then has_long_exponent rest else false) else_it.1)

    of_first : ((((first == 128) || (first == 192)) ≡ true) × ((has_parts 1 rest) ≡ true)) ⊎ ((((first == 128) || (first == 192)) ≡ false) × ((if (first == 129) || (first == 193) then has_parts 2 rest else (if (first == 130) || (first == 194) then has_parts 3 rest else (if (first == 131) || (first == 195) then has_long_exponent rest else false))) ≡ true)) → IsReal (first ∷ rest)
    of_first (inl is) = inr (inr (inl (short_of 128 192 first 1 rest refl refl (lit< tt) (lit< tt) is.0 is.1)))
    of_first (inr else_it) = of_second (chosen ((first == 129) || (first == 193)) (has_parts 2 rest) (if (first == 130) || (first == 194) then has_parts 3 rest else (if (first == 131) || (first == 195) then has_long_exponent rest else false)) else_it.1)

    of_special : (((is_special first) ≡ true) × ((length rest == 0) ≡ true)) ⊎ (((is_special first) ≡ false) × ((if (first == 128) || (first == 192) then has_parts 1 rest else (if (first == 129) || (first == 193) then has_parts 2 rest else (if (first == 130) || (first == 194) then has_parts 3 rest else (if (first == 131) || (first == 195) then has_long_exponent rest else false)))) ≡ true)) → IsReal (first ∷ rest)
    of_special (inl is) = alone_of first rest is.0 is.1
    of_special (inr else_it) = of_first (chosen ((first == 128) || (first == 192)) (has_parts 1 rest) (if (first == 129) || (first == 193) then has_parts 2 rest else (if (first == 130) || (first == 194) then has_parts 3 rest else (if (first == 131) || (first == 195) then has_long_exponent rest else false))) else_it.1)

    of_three : (((first == 3) ≡ true) × ((is_decimal rest) ≡ true)) ⊎ (((first == 3) ≡ false) × ((if is_special first then length rest == 0 else (if (first == 128) || (first == 192) then has_parts 1 rest else (if (first == 129) || (first == 193) then has_parts 2 rest else (if (first == 130) || (first == 194) then has_parts 3 rest else (if (first == 131) || (first == 195) then has_long_exponent rest else false))))) ≡ true)) → IsReal (first ∷ rest)
    of_three (inl is) = inr (inr (inr (rest, ap (λ n. n ∷ rest) (same first 3 is.0), decimal_of rest is.1)))
    of_three (inr else_it) = of_special (chosen (is_special first) (length rest == 0) (if (first == 128) || (first == 192) then has_parts 1 rest else (if (first == 129) || (first == 193) then has_parts 2 rest else (if (first == 130) || (first == 194) then has_parts 3 rest else (if (first == 131) || (first == 195) then has_long_exponent rest else false)))) else_it.1)

-- what a choice is
then_is : (b x y : Bool) → b ≡ true → x ≡ true → (if b then x else y) ≡ true
then_is true x y p q = q
then_is false x y p q = absurd (false≢true p)

else_is : (b x y : Bool) → b ≡ false → y ≡ true → (if b then x else y) ≡ true
else_is true x y p q = absurd (false≢true (sym p))
else_is false x y p q = q

not_true : (b : Bool) → b ≡ false → not b ≡ true
not_true true p = sym p
not_true false p = refl

-- an exponent of this many octets, and a mantissa
has_both : (count : ℕ) (exponent mantissa : List ℕ) → length exponent ≡ count → is_shortest exponent ≡ true → is_odd_number mantissa ≡ true →
    has_parts count (exponent ++ mantissa) ≡ true
has_both count exponent mantissa len shortest odd =
    and (nat_lt count (length (exponent ++ mantissa)) && is_shortest (take count (exponent ++ mantissa))) (is_odd_number (drop count (exponent ++ mantissa)))
    (and (nat_lt count (length (exponent ++ mantissa))) (is_shortest (take count (exponent ++ mantissa))) longer (ap is_shortest front ∙ shortest))
    (ap is_odd_number back ∙ odd)
  where
    some : 0 < length mantissa
    some = grind (arith, nat_tests, both, odd)

    longer : nat_lt count (length (exponent ++ mantissa)) ≡ true
    longer = grind (arith, common_steps, some, len)

    front : take count (exponent ++ mantissa) ≡ exponent
    front = grind (arith, common_steps, len)

    back : drop count (exponent ++ mantissa) ≡ mantissa
    back = grind (arith, common_steps, len)

-- a binary number is a REAL
of_binary : (is_negative : Bool) (exponent mantissa : List ℕ) → 0 < length exponent → is_shortest exponent ≡ true → is_odd_number mantissa ≡ true →
    is_real (binary is_negative exponent mantissa) ≡ true
of_binary is_negative [] mantissa some shortest odd = absurd (grind (arith, some))
of_binary false (a ∷ []) mantissa some shortest odd = has_both 1 (a ∷ []) mantissa refl shortest odd
of_binary true (a ∷ []) mantissa some shortest odd = has_both 1 (a ∷ []) mantissa refl shortest odd
of_binary false (a ∷ b ∷ []) mantissa some shortest odd = has_both 2 (a ∷ b ∷ []) mantissa refl shortest odd
of_binary true (a ∷ b ∷ []) mantissa some shortest odd = has_both 2 (a ∷ b ∷ []) mantissa refl shortest odd
of_binary false (a ∷ b ∷ c ∷ []) mantissa some shortest odd = has_both 3 (a ∷ b ∷ c ∷ []) mantissa refl shortest odd
of_binary true (a ∷ b ∷ c ∷ []) mantissa some shortest odd = has_both 3 (a ∷ b ∷ c ∷ []) mantissa refl shortest odd
of_binary is_negative (a ∷ b ∷ c ∷ d ∷ more) mantissa some shortest odd =
    ap (λ front. is_real (front ++ ((a ∷ b ∷ c ∷ d ∷ more) ++ mantissa))) (long_head is_negative count many) ∙ by_sign is_negative
  where
    count : ℕ
    count = length (a ∷ b ∷ c ∷ d ∷ more)

    many : 4 ≤ length (a ∷ b ∷ c ∷ d ∷ more)
    many = grind arith

    long : has_long_exponent (length (a ∷ b ∷ c ∷ d ∷ more) ∷ ((a ∷ b ∷ c ∷ d ∷ more) ++ mantissa)) ≡ true
    long = and (not (nat_lt (length (a ∷ b ∷ c ∷ d ∷ more)) 4)) (has_parts (length (a ∷ b ∷ c ∷ d ∷ more)) ((a ∷ b ∷ c ∷ d ∷ more) ++ mantissa))
        (grind (arith, nat_tests, many)) (has_both (length (a ∷ b ∷ c ∷ d ∷ more)) (a ∷ b ∷ c ∷ d ∷ more) mantissa refl shortest odd)

    by_sign : (is_negative : Bool) → is_real ((if is_negative then 195 else 131) ∷ length (a ∷ b ∷ c ∷ d ∷ more) ∷ ((a ∷ b ∷ c ∷ d ∷ more) ++ mantissa)) ≡ true
    by_sign false = long
    by_sign true = long

-- what follows a digit of a mantissa
goes_back : (digit : ℕ) (rest power : List ℕ) → are_digits rest ≡ true → (last_of digit rest == 48) ≡ false → is_power power ≡ true →
    goes_on digit (rest ++ (46 ∷ 69 ∷ power)) ≡ true
goes_back digit [] power digits ends is_power_of = and (not (digit == 48)) (is_exponent (69 ∷ power)) (not_true (digit == 48) ends) is_power_of
goes_back digit (o ∷ rest) power digits ends is_power_of =
    else_is (o == 46) (not (digit == 48) && is_exponent (rest ++ (46 ∷ 69 ∷ power))) (is_digit o && goes_on o (rest ++ (46 ∷ 69 ∷ power)))
    (not_full o (both (is_digit o) (are_digits rest) digits).0)
    (and (is_digit o) (goes_on o (rest ++ (46 ∷ 69 ∷ power))) (both (is_digit o) (are_digits rest) digits).0
    (goes_back o rest power (both (is_digit o) (are_digits rest) digits).1 ends is_power_of))
  where
    not_full : (o : ℕ) → is_digit o ≡ true → (o == 46) ≡ false
    not_full o digit = grind (arith, nat_tests, digit)

unsigned_back : (mantissa power : List ℕ) → IsMantissa mantissa → is_power power ≡ true → is_unsigned (mantissa ++ (46 ∷ 69 ∷ power)) ≡ true
unsigned_back mantissa power own is_power_of =
    ap (λ m. is_unsigned (m ++ (46 ∷ 69 ∷ power))) own.are
    ∙ and (is_nonzero_digit own.first) (goes_on own.first (own.rest ++ (46 ∷ 69 ∷ power))) own.begins (goes_back own.first own.rest power own.digits own.ends is_power_of)

decimal_back : (text : List ℕ) → IsDecimal text → is_decimal text ≡ true
decimal_back text own = of_sign own.are
  where
    plain : is_unsigned (own.mantissa ++ (46 ∷ 69 ∷ own.power)) ≡ true
    plain = unsigned_back own.mantissa own.power own.is_mantissa own.is_power

    not_hyphen : (own.is_mantissa.first == 45) ≡ false
    not_hyphen = grind (arith, nat_tests, both, own.is_mantissa.begins)

    of_sign : (text ≡ own.mantissa ++ (46 ∷ 69 ∷ own.power)) ⊎ (text ≡ 45 ∷ (own.mantissa ++ (46 ∷ 69 ∷ own.power))) → is_decimal text ≡ true
    of_sign (inr are) = ap is_decimal are ∙ plain
    of_sign (inl are) =
        ap is_decimal (are ∙ ap (λ m. m ++ (46 ∷ 69 ∷ own.power)) own.is_mantissa.are)
        ∙ else_is (own.is_mantissa.first == 45) (is_unsigned (own.is_mantissa.rest ++ (46 ∷ 69 ∷ own.power)))
        (is_unsigned (own.is_mantissa.first ∷ (own.is_mantissa.rest ++ (46 ∷ 69 ∷ own.power)))) not_hyphen
        (ap (λ m. is_unsigned (m ++ (46 ∷ 69 ∷ own.power))) (sym own.is_mantissa.are) ∙ plain)

special_back : (o : ℕ) → is_special o ≡ true → is_real (o ∷ []) ≡ true
special_back o special = else_is (o == 3) (is_decimal []) _ (grind (arith, nat_tests, both, special)) (then_is (is_special o) true _ special refl)

of_real : (octets : List ℕ) → IsReal octets → IsTrue (is_real octets)
of_real octets (inl none) = ap is_real none
of_real octets (inr (inl alone)) = ap is_real alone.2 ∙ special_back alone.0 alone.1
of_real octets (inr (inr (inl own))) = ap is_real own.are ∙ of_binary own.is_negative own.exponent own.mantissa own.some own.shortest own.odd
of_real octets (inr (inr (inr text))) = ap is_real text.1 ∙ decimal_back text.0 text.2

-- octets are those of a REAL if and only if they are those of its parts
pub reals : (octets : List ℕ) → AllBelowBase 256 octets → IsTrue (is_real octets) ↔ IsReal octets
reals octets fit = (real_of octets fit, of_real octets)
