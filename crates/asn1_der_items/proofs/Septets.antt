-- Numbers to the base 128, digit after digit.
use Rattle.std.proofs.Common.{◌≡◌, ℕ, ◌+◌, ◌-◌, ◌*◌, ◌/◌, ◌%◌, ◌≤◌, ◌<◌, Bool, true, false, List, [], ◌∷◌, ◌++◌, None, Some, append_assoc, refl, sym, ap, ◌∙◌, arith}
use Rattle.std.proofs.lemmas.Bool.{lt-ltb, le-ltb}
use borrow.Author.Tests.{eqb-true}
use Rattle.std.proofs.lemmas.List.{map-append}
use Rattle.std.proofs.lemmas.Int.Digits.{number_push}
use Rattle.std.specs.Prelude.{map, nat_eq, nat_lt, if◌then◌else◌}
use Rattle.std.specs.Int.Digits.{AllBelowBase, number_from_digits, number_from_digits_after}
use Rattle.asn1_values.specs.Numbers.{IsShortest}
use Rattle.asn1_der_items.specs.Base128.{AreLeading, Front, IsBase128, base128_after, base128_at}
use Rattle.asn1_items.specs.Numbers.{Appended}

-- one more digit
pub below-push : (b : ℕ) (ds : List ℕ) (d : ℕ) → AllBelowBase b ds → d < b → AllBelowBase b (ds ++ d ∷ [])
below-push b [] d below last = (last, tt)
below-push b (x ∷ ds) d below last = (below.0, below-push b ds d below.1 last)

shortest-push : (ds : List ℕ) (d : ℕ) → 0 < number_from_digits 128 ds → IsShortest ds → IsShortest (ds ++ d ∷ [])
shortest-push [] d some shortest = absurd (omega arith)
shortest-push (x ∷ ds) d some shortest = shortest

-- a number below 128 is one digit
pub one_digit : (n : ℕ) → n < 128 → IsBase128 n (n ∷ [])
one_digit n below = record { leading = []; last = n; are = refl; digits = (below, tt); value = omega arith; shortest = λ e. cc }

pub one_leading : (n : ℕ) → 0 < n → n < 128 → AreLeading n ((n + 128) ∷ [])
one_leading n some below = record {
  digits = n ∷ [];
  are = refl;
  below = (below, tt);
  value = omega arith;
  shortest = λ e. (let z : n ≡ 0 = cc in absurd (omega arith));
}

-- any other has the digits of an 128th of it before its last digit
value_push : (n m d : ℕ) (ds : List ℕ) → m ≡ n / 128 → d ≡ n % 128 → number_from_digits 128 ds ≡ m → number_from_digits 128 (ds ++ d ∷ []) ≡ n
value_push n m d ds front last value = number_push 128 ds d ∙ omega arith

pub more_leading : (n m d : ℕ) (octets : List ℕ) → 128 ≤ n → m ≡ n / 128 → d ≡ n % 128 → AreLeading m octets → AreLeading n (octets ++ (d + 128) ∷ [])
more_leading n m d octets some front last are = record {
  digits = are.digits ++ d ∷ [];
  are = ap (λ l. l ++ (d + 128) ∷ []) are.are ∙ sym (map-append (λ d. d + 128) are.digits (d ∷ []));
  below = below-push 128 are.digits d are.below (omega arith);
  value = value_push n m d are.digits front last are.value;
  shortest = shortest-push are.digits d (omega (arith, are.value)) are.shortest;
}

pub with_last : (n m d : ℕ) (octets : List ℕ) → m ≡ n / 128 → d ≡ n % 128 → AreLeading m octets → IsBase128 n (octets ++ d ∷ [])
with_last n m d octets front last are = record {
  leading = are.digits;
  last = d;
  are = ap (λ l. l ++ d ∷ []) are.are;
  digits = below-push 128 are.digits d are.below (omega arith);
  value = value_push n m d are.digits front last are.value;
  shortest = are.shortest;
}

-- what was appended, and one octet more
pub then_leading : (n m o : ℕ) (old mid new : List ℕ) → 128 ≤ n → m ≡ n / 128 → o ≡ n % 128 + 128 → Appended (AreLeading m) old mid → new ≡ mid ++ o ∷ [] → Appended (AreLeading n) old new
then_leading n m o old mid new high front last are pushed = record {
  added = are.added ++ (n % 128 + 128) ∷ [];
  is = more_leading n m (n % 128) are.added high front refl are.is;
  joined = pushed ∙ ap (λ x. mid ++ x ∷ []) last ∙ ap (λ l. l ++ (n % 128 + 128) ∷ []) are.joined ∙ append_assoc old are.added ((n % 128 + 128) ∷ []);
}

pub then_last : (n m o : ℕ) (old mid new : List ℕ) → m ≡ n / 128 → o ≡ n % 128 → Appended (AreLeading m) old mid → new ≡ mid ++ o ∷ [] → Appended (IsBase128 n) old new
then_last n m o old mid new front last are pushed = record {
  added = are.added ++ o ∷ [];
  is = with_last n m o are.added front last are.is;
  joined = pushed ∙ ap (λ l. l ++ o ∷ []) are.joined ∙ append_assoc old are.added (o ∷ []);
}

-- what is read is no less than the digits before it
pub after_ge : (n : ℕ) (xs : List ℕ) (f : Front) → base128_after n xs ≡ Some f → n * 128 ≤ f.number
after_ge n [] f e = cc
after_ge n (o ∷ rest) f e = by (nat_lt o 128) e (after_ge (n * 128 + (o - 128)) rest f)
  where
    by : (b : Bool) → (if b then Some (record { number = n * 128 + o; rest = rest }) else base128_after (n * 128 + (o - 128)) rest) ≡ Some f →
        (base128_after (n * 128 + (o - 128)) rest ≡ Some f → (n * 128 + (o - 128)) * 128 ≤ f.number) → n * 128 ≤ f.number
    by true e more = let is : n * 128 + o ≡ f.number = cc in omega arith
    by false e more = let low = more e in omega arith

-- a number that is read does not begin with a 0
pub after_of_at : (xs : List ℕ) (f : Front) → base128_at xs ≡ Some f → base128_after 0 xs ≡ Some f
after_of_at [] f e = cc
after_of_at (o ∷ rest) f e = by (nat_eq o 128) e
  where
    by : (b : Bool) → (if b then None else base128_after 0 (o ∷ rest)) ≡ Some f → base128_after 0 (o ∷ rest) ≡ Some f
    by true e = cc
    by false e = e

-- A written number is read again, with any trailing bytes.
read_digits : (n : ℕ) (leading : List ℕ) (last : ℕ) (back : List ℕ) → AllBelowBase 128 (leading ++ last ∷ []) →
    base128_after n (map (λ d. d + 128) leading ++ last ∷ back) ≡ Some (record { number = number_from_digits_after 128 n (leading ++ last ∷ []); rest = back })
read_digits n [] last back below = ap (λ b. if b then Some (record { number = n * 128 + last; rest = back }) else base128_after (n * 128 + (last - 128)) back) (lt-ltb last 128 below.0)
read_digits n (d ∷ leading) last back below =
    ap (λ b. if b then Some (record { number = n * 128 + (d + 128); rest = map (λ d. d + 128) leading ++ last ∷ back }) else base128_after (n * 128 + ((d + 128) - 128)) (map (λ d. d + 128) leading ++ last ∷ back)) (le-ltb (d + 128) 128 (omega arith))
    ∙ ap (λ k. base128_after (n * 128 + k) (map (λ d. d + 128) leading ++ last ∷ back)) (omega arith)
    ∙ read_digits (n * 128 + d) leading last back below.1

not_eq : (m n : ℕ) → ¬ (m ≡ n) → nat_eq m n ≡ false
not_eq m n other = by (nat_eq m n) refl
  where
    by : (b : Bool) → nat_eq m n ≡ b → nat_eq m n ≡ false
    by true e = absurd (other (eqb-true m n e))
    by false e = e

pub at_from_after : (o : ℕ) (rest : List ℕ) → ¬ (o ≡ 128) → base128_at (o ∷ rest) ≡ base128_after 0 (o ∷ rest)
at_from_after o rest other = ap (λ b. if b then None else base128_after 0 (o ∷ rest)) (not_eq o 128 other)

first_is_no_zero : (leading : List ℕ) (last : ℕ) (back : List ℕ) → AllBelowBase 128 (leading ++ last ∷ []) → IsShortest leading →
    base128_at (map (λ d. d + 128) leading ++ last ∷ back) ≡ base128_after 0 (map (λ d. d + 128) leading ++ last ∷ back)
first_is_no_zero [] last back below shortest = at_from_after last back (λ e. omega (arith, below.0))
first_is_no_zero (d ∷ leading) last back below shortest = at_from_after (d + 128) _ (λ e. shortest (ap Some (let z : d ≡ 0 = omega arith in z)))

pub base128-found : (n : ℕ) (octets back : List ℕ) → IsBase128 n octets → base128_at (octets ++ back) ≡ Some (record { number = n; rest = back })
base128-found n octets back is =
    let whole : octets ++ back ≡ map (λ d. d + 128) is.leading ++ is.last ∷ back = ap (λ l. l ++ back) is.are ∙ append_assoc (map (λ d. d + 128) is.leading) (is.last ∷ []) back in
    ap base128_at whole ∙ first_is_no_zero is.leading is.last back is.digits is.shortest ∙ read_digits 0 is.leading is.last back is.digits ∙ ap (λ k. Some (record { number = k; rest = back })) is.value
