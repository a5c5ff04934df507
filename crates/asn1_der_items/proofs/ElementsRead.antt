-- An element that is found in octets is one: its identifier and length are of the fewest octets.
use Rattle.std.proofs.Common.{◌≡◌, ℕ, zero, suc, ◌+◌, ◌-◌, ◌*◌, ◌/◌, ◌%◌, ◌≤◌, ◌<◌, ◌^◌, Bool, true, false, List, [], ◌∷◌, ◌++◌, Option, None, Some, append_assoc, length, take, drop, get_or, Fits, w8, refl, sym, ap, subst, ◌∙◌, arith, inl, inr}
use Rattle.std.proofs.lemmas.Bool.{ltb-true, ltb-false, leb-true}
use Rattle.std.proofs.lemmas.List.{length-take-le, take-append-drop}
use borrow.Author.Tests.{eqb-true, eq-eqb}
use Rattle.std.specs.Int.Digits.{AllBelowBase, number_from_digits_after}
use Rattle.std.specs.Option.{option_and_then}
use Rattle.std.specs.Prelude.{◌==◌, ◌&&◌, map, nat_eq, nat_le, nat_lt, if◌then◌else◌}
use Rattle.asn1_items.specs.Headers.{class_at}
use Rattle.asn1_tags.specs.Tags.{class_number}
use Rattle.asn1_tags.specs.declared.classes.Class.{Class}
use Rattle.asn1_values.specs.Numbers.{IsShortest, magnitude}
use Rattle.asn1_der_items.specs.Base128.{BeginWithNumber, Front, base128_after, base128_at}
use Rattle.asn1_der_items.specs.Elements.{BeginWithElement, Element, element_at, of_identifier, of_length}
use Rattle.asn1_der_items.specs.Identifiers.{Identified, IsIdentifier, first_octet, form_bit, high_tag, high_tag_at, identifier_at, of_class}
use Rattle.asn1_der_items.specs.Lengths.{IsLength, begins_with_digit, length_at, long_length_at}

some_is : {A : Type 0} {x y : A} → Some x ≡ Some y → x ≡ y
some_is e = cc

-- octets in front of others, and behind them
below_take : (b n : ℕ) (xs : List ℕ) → AllBelowBase b xs → AllBelowBase b (take n xs)
below_take b zero xs all = tt
below_take b (suc n) [] all = tt
below_take b (suc n) (x ∷ xs) all = (all.0, below_take b n xs all.1)

below_behind : (b : ℕ) (xs ys : List ℕ) → AllBelowBase b (xs ++ ys) → AllBelowBase b ys
below_behind b [] ys all = all
below_behind b (x ∷ xs) ys all = below_behind b xs ys all.1

pub are_octets : (bytes : List ℕ) → ((i : ℕ) → Fits w8 (get_or bytes i 0)) → AllBelowBase 256 bytes
are_octets [] fits = tt
are_octets (byte ∷ bytes) fits = (omega (arith, fits 0), are_octets bytes (λ i. fits (suc i)))

-- Numbers to the base 128: the octets are digits after those before them.
record Digits (n : ℕ) (xs : List ℕ) (f : Front) : Type 0 where
  leading : List ℕ
  last : ℕ
  are : xs ≡ map (λ d. d + 128) leading ++ last ∷ f.rest
  below : AllBelowBase 128 (leading ++ last ∷ [])
  value : number_from_digits_after 128 n (leading ++ last ∷ []) ≡ f.number

one_more : (n o : ℕ) (rest : List ℕ) (f : Front) → o < 256 → 128 ≤ o → Digits (n * 128 + (o - 128)) rest f → Digits n (o ∷ rest) f
one_more n o rest f octet high d = record {
  leading = (o - 128) ∷ d.leading;
  last = d.last;
  are = ap (λ k. k ∷ rest) (let same : o ≡ o - 128 + 128 = omega arith in same) ∙ ap (λ l. (o - 128 + 128) ∷ l) d.are;
  below = (let small : o - 128 < 128 = omega arith in small, d.below);
  value = d.value;
}

digits_after : (n : ℕ) (xs : List ℕ) (f : Front) → AllBelowBase 256 xs → base128_after n xs ≡ Some f → Digits n xs f
digits_after n [] f octets is = cc
digits_after n (o ∷ rest) f octets is = by (nat_lt o 128) refl is (digits_after (n * 128 + (o - 128)) rest f octets.1)
  where
    by : (b : Bool) → nat_lt o 128 ≡ b → (if b then Some (record { number = n * 128 + o; rest = rest }) else base128_after (n * 128 + (o - 128)) rest) ≡ Some f →
        (base128_after (n * 128 + (o - 128)) rest ≡ Some f → Digits (n * 128 + (o - 128)) rest f) → Digits n (o ∷ rest) f
    by true low e later = record {
      leading = [];
      last = o;
      are = ap (λ (g : Front). o ∷ g.rest) (some_is e);
      below = (ltb-true o 128 low, tt);
      value = ap (λ (g : Front). g.number) (some_is e);
    }
    by false high e later = one_more n o rest f octets.0 (ltb-false o 128 high) (later e)

shortest_of : (leading : List ℕ) (last o : ℕ) (rest back : List ℕ) → ¬ (o ≡ 128) → o ∷ rest ≡ map (λ d. d + 128) leading ++ last ∷ back → IsShortest leading
shortest_of [] last o rest back other are = λ e. cc
shortest_of (d ∷ leading) last o rest back other are = λ e. (let zero : d ≡ 0 = some_is e in let first : o ≡ d + 128 = cc in other (omega arith))

with_digits : (o : ℕ) (rest : List ℕ) (f : Front) → ¬ (o ≡ 128) → Digits 0 (o ∷ rest) f → BeginWithNumber f (o ∷ rest)
with_digits o rest f other d = record {
  octets = map (λ d. d + 128) d.leading ++ d.last ∷ [];
  number = record { leading = d.leading; last = d.last; are = refl; digits = d.below; value = d.value; shortest = shortest_of d.leading d.last o rest f.rest other d.are };
  are = d.are ∙ sym (append_assoc (map (λ d. d + 128) d.leading) (d.last ∷ []) f.rest);
}

pub number_read : (bytes : List ℕ) (f : Front) → AllBelowBase 256 bytes → base128_at bytes ≡ Some f → BeginWithNumber f bytes
number_read [] f octets is = cc
number_read (o ∷ rest) f octets is = by (nat_eq o 128) refl is
  where
    by : (b : Bool) → nat_eq o 128 ≡ b → (if b then None else base128_after 0 (o ∷ rest)) ≡ Some f → BeginWithNumber f (o ∷ rest)
    by true same e = cc
    by false other e = with_digits o rest f (λ same. (let yes_it_is = eq-eqb o 128 same in cc)) (digits_after 0 (o ∷ rest) f octets e)

-- lengths
record BeginsWithLength (f : Front) (bytes : List ℕ) : Type 0 where
  octets : List ℕ
  size : IsLength f.number octets
  are : bytes ≡ octets ++ f.rest

no_zero_first : (digits : List ℕ) → begins_with_digit digits ≡ true → IsShortest digits
no_zero_first [] some = cc
no_zero_first (d ∷ digits) some = λ e. (let zero : d ≡ 0 = some_is e in let above = ltb-true 0 d some in omega arith)

-- The parts of a test of four are true.
record AllTrue (a b c d : Bool) : Type 0 where
  first : a ≡ true
  second : b ≡ true
  third : c ≡ true
  fourth : d ≡ true

each_true : (a b c d : Bool) → (a && b && c && d) ≡ true → AllTrue a b c d
each_true true true true true e = record { first = refl; second = refl; third = refl; fourth = refl }
each_true true true true false e = cc
each_true true true false d e = cc
each_true true false c d e = cc
each_true false b c d e = cc

long_read : (o : ℕ) (rest : List ℕ) (f : Front) → 128 ≤ o → AllBelowBase 256 rest → long_length_at (o - 128) rest ≡ Some f → BeginsWithLength f (o ∷ rest)
long_read o rest f high octets is = by (nat_le count (length rest) && begins_with_digit digits && nat_le 128 (magnitude digits) && nat_lt (magnitude digits) (2 ^ 64)) refl is
  where
    count : ℕ
    count = o - 128

    digits : List ℕ
    digits = take count rest

    with_test : AllTrue (nat_le count (length rest)) (begins_with_digit digits) (nat_le 128 (magnitude digits)) (nat_lt (magnitude digits) (2 ^ 64)) →
        record { number = magnitude digits; rest = drop count rest } ≡ f → BeginsWithLength f (o ∷ rest)
    with_test all same = record {
      octets = (length digits + 128) ∷ digits;
      size = inr (record {
        digits = digits;
        are = refl;
        value = ap (λ (g : Front). g.number) same;
        shortest = record { are_bytes = below_take 256 count rest octets; shortest = no_zero_first digits all.second };
        not_short = subst (λ k. 128 ≤ k) (ap (λ (g : Front). g.number) same) (leb-true 128 (magnitude digits) all.third);
        fits = subst (λ k. k < 2 ^ 64) (ap (λ (g : Front). g.number) same) (ltb-true (magnitude digits) (2 ^ 64) all.fourth);
      });
      are = ap (λ k. k ∷ rest) (let e : o ≡ length digits + 128 = omega (arith, length-take-le count rest (leb-true count (length rest) all.first)) in e)
          ∙ ap (λ l. (length digits + 128) ∷ l) (sym (take-append-drop count rest) ∙ ap (λ (g : Front). digits ++ g.rest) same);
    }

    by : (b : Bool) → (nat_le count (length rest) && begins_with_digit digits && nat_le 128 (magnitude digits) && nat_lt (magnitude digits) (2 ^ 64)) ≡ b →
        (if b then Some (record { number = magnitude digits; rest = drop count rest }) else None) ≡ Some f → BeginsWithLength f (o ∷ rest)
    by true test e = with_test (each_true (nat_le count (length rest)) (begins_with_digit digits) (nat_le 128 (magnitude digits)) (nat_lt (magnitude digits) (2 ^ 64)) test) (some_is e)
    by false test e = cc

length_read : (bytes : List ℕ) (f : Front) → AllBelowBase 256 bytes → length_at bytes ≡ Some f → BeginsWithLength f bytes
length_read [] f octets is = cc
length_read (o ∷ rest) f octets is = by (nat_lt o 128) refl is
  where
    by : (b : Bool) → nat_lt o 128 ≡ b → (if b then Some (record { number = o; rest = rest }) else long_length_at (o - 128) rest) ≡ Some f → BeginsWithLength f (o ∷ rest)
    by true low e = record {
      octets = o ∷ [];
      size = inl (record {
        are = ap (λ (g : Front). g.number ∷ []) (some_is e);
        below = subst (λ k. k < 128) (ap (λ (g : Front). g.number) (some_is e)) (ltb-true o 128 low);
      });
      are = ap (λ (g : Front). o ∷ g.rest) (some_is e);
    }
    by false high e = long_read o rest f (ltb-false o 128 high) octets.1 e

-- identifiers
record BeginsWithIdentifier (i : Identified) (bytes : List ℕ) : Type 0 where
  octets : List ℕ
  identifier : IsIdentifier i.tag i.constructed octets
  are : bytes ≡ octets ++ i.rest

class_read : (k : ℕ) (class : Class) → class_at k ≡ Some class → k ≡ class_number class
class_read zero class e = ap class_number (some_is e)
class_read (suc zero) class e = ap class_number (some_is e)
class_read (suc (suc zero)) class e = ap class_number (some_is e)
class_read (suc (suc (suc zero))) class e = ap class_number (some_is e)
class_read (suc (suc (suc (suc k)))) class e = cc

form_read : (o : ℕ) (b : Bool) → (o / 32 % 2 == 1) ≡ b → o / 32 % 2 * 32 ≡ form_bit b
form_read o true e = let one : o / 32 % 2 ≡ 1 = eqb-true (o / 32 % 2) 1 e in omega arith
form_read o false e = by (o / 32 % 2) refl
  where
    by : (k : ℕ) → o / 32 % 2 ≡ k → o / 32 % 2 * 32 ≡ 0
    by zero same = omega arith
    by (suc zero) same = let yes_it_is = eq-eqb (o / 32 % 2) 1 same in cc
    by (suc (suc k)) same = absurd (omega arith)

first_read : (o low : ℕ) (class : Class) → o % 32 ≡ low → class_at (o / 64) ≡ Some class → o ≡ first_octet class (o / 32 % 2 == 1) low
first_read o low class is found =
    let upper = class_read (o / 64) class found in
    let form = form_read o (o / 32 % 2 == 1) refl in
    omega arith

low_identifier : (o : ℕ) (rest : List ℕ) (class : Class) → class_at (o / 64) ≡ Some class → o % 32 < 31 →
    BeginsWithIdentifier (record { tag = record { class = class; value = o % 32 }; constructed = o / 32 % 2 == 1; rest = rest }) (o ∷ rest)
low_identifier o rest class found low = record {
  octets = o ∷ [];
  identifier = inl (record { are = ap (λ k. k ∷ []) (first_read o (o % 32) class refl found); below = low });
  are = refl;
}

high_identifier : (o : ℕ) (rest : List ℕ) (class : Class) (f : Front) → class_at (o / 64) ≡ Some class → 31 ≤ o % 32 → BeginWithNumber f rest → 31 ≤ f.number → f.number < 2 ^ 32 →
    BeginsWithIdentifier (record { tag = record { class = class; value = f.number }; constructed = o / 32 % 2 == 1; rest = f.rest }) (o ∷ rest)
high_identifier o rest class f found high n above fits = record {
  octets = o ∷ n.octets;
  identifier = inr (record {
    number = n.octets;
    are = ap (λ k. k ∷ n.octets) (first_read o 31 class (omega arith) found);
    value = n.number;
    not_low = above;
    fits = fits;
  });
  are = ap (λ l. o ∷ l) n.are;
}

identifier_read : (bytes : List ℕ) (i : Identified) → AllBelowBase 256 bytes → identifier_at bytes ≡ Some i → BeginsWithIdentifier i bytes
identifier_read [] i octets is = cc
identifier_read (o ∷ rest) i octets is = by_class (class_at (o / 64)) refl is
  where
    constructed : Bool
    constructed = o / 32 % 2 == 1

    by_fits : (class : Class) (f : Front) (a b : Bool) → class_at (o / 64) ≡ Some class → 31 ≤ o % 32 → base128_at rest ≡ Some f → nat_le 31 f.number ≡ a → nat_lt f.number (2 ^ 32) ≡ b →
        (if a && b then Some (record { tag = record { class = class; value = f.number }; constructed = constructed; rest = f.rest }) else None) ≡ Some i → BeginsWithIdentifier i (o ∷ rest)
    by_fits class f true true found high front above fits e =
        subst (λ j. BeginsWithIdentifier j (o ∷ rest)) (some_is e)
        (high_identifier o rest class f found high (number_read rest f octets.1 front) (leb-true 31 f.number above) (ltb-true f.number (2 ^ 32) fits))
    by_fits class f true false found high front above fits e = cc
    by_fits class f false b found high front above fits e = cc

    by_front : (class : Class) (front : Option Front) → class_at (o / 64) ≡ Some class → 31 ≤ o % 32 → base128_at rest ≡ front → option_and_then (high_tag class constructed) front ≡ Some i →
        BeginsWithIdentifier i (o ∷ rest)
    by_front class None found high at e = cc
    by_front class (Some f) found high at e = by_fits class f (nat_le 31 f.number) (nat_lt f.number (2 ^ 32)) found high at refl refl e

    by_low : (class : Class) (b : Bool) → class_at (o / 64) ≡ Some class → nat_lt (o % 32) 31 ≡ b →
        (if b then Some (record { tag = record { class = class; value = o % 32 }; constructed = constructed; rest = rest }) else high_tag_at class constructed rest) ≡ Some i →
        BeginsWithIdentifier i (o ∷ rest)
    by_low class true found low e = subst (λ j. BeginsWithIdentifier j (o ∷ rest)) (some_is e) (low_identifier o rest class found (ltb-true (o % 32) 31 low))
    by_low class false found high e = by_front class (base128_at rest) found (ltb-false (o % 32) 31 high) refl e

    by_class : (class : Option Class) → class_at (o / 64) ≡ class → option_and_then (of_class constructed (o % 32) rest) class ≡ Some i → BeginsWithIdentifier i (o ∷ rest)
    by_class None found e = cc
    by_class (Some class) found e = by_low class (nat_lt (o % 32) 31) found refl e

-- elements
of_parts : (bytes : List ℕ) (i : Identified) (f : Front) → BeginsWithIdentifier i bytes → BeginsWithLength f i.rest → f.number ≤ length f.rest →
    BeginWithElement (record { tag = i.tag; constructed = i.constructed; contents = take f.number f.rest; rest = drop f.number f.rest }) bytes
of_parts bytes i f identifier size enough = record {
  own = identifier.octets ++ (size.octets ++ take f.number f.rest);
  element = record {
    identifier = identifier.octets;
    size = size.octets;
    is_identifier = identifier.identifier;
    is_size = subst (λ n. IsLength n size.octets) (sym (length-take-le f.number f.rest enough)) size.size;
    are = refl;
  };
  are =
      identifier.are
      ∙ ap (λ l. identifier.octets ++ l) (size.are ∙ ap (λ l. size.octets ++ l) (sym (take-append-drop f.number f.rest)) ∙ sym (append_assoc size.octets (take f.number f.rest) (drop f.number f.rest)))
      ∙ sym (append_assoc identifier.octets (size.octets ++ take f.number f.rest) (drop f.number f.rest));
}

pub element_read : (bytes : List ℕ) (e : Element) → AllBelowBase 256 bytes → element_at bytes ≡ Some e → BeginWithElement e bytes
element_read bytes e octets is = by (identifier_at bytes) refl is
  where
    by_size : (i : Identified) (f : Front) (b : Bool) → BeginsWithIdentifier i bytes → BeginsWithLength f i.rest → nat_le f.number (length f.rest) ≡ b →
        (if b then Some (record { tag = i.tag; constructed = i.constructed; contents = take f.number f.rest; rest = drop f.number f.rest }) else None) ≡ Some e → BeginWithElement e bytes
    by_size i f true identifier size enough is = subst (λ g. BeginWithElement g bytes) (some_is is) (of_parts bytes i f identifier size (leb-true f.number (length f.rest) enough))
    by_size i f false identifier size enough is = cc

    by_length : (i : Identified) (o : Option Front) → BeginsWithIdentifier i bytes → AllBelowBase 256 i.rest → length_at i.rest ≡ o → option_and_then (of_length i) o ≡ Some e → BeginWithElement e bytes
    by_length i None identifier behind found is = cc
    by_length i (Some f) identifier behind found is = by_size i f (nat_le f.number (length f.rest)) identifier (length_read i.rest f behind found) refl is

    by_identifier : (i : Identified) → BeginsWithIdentifier i bytes → option_and_then (of_length i) (length_at i.rest) ≡ Some e → BeginWithElement e bytes
    by_identifier i identifier is = by_length i (length_at i.rest) identifier (below_behind 256 identifier.octets i.rest (subst (λ l. AllBelowBase 256 l) identifier.are octets)) refl is

    by : (o : Option Identified) → identifier_at bytes ≡ o → option_and_then of_identifier o ≡ Some e → BeginWithElement e bytes
    by None found is = cc
    by (Some i) found is = by_identifier i (identifier_read bytes i octets found) is
