-- The contents of a RELATIVE-OID are numbers to the base 128, one after another.
use Rattle.std.proofs.Common.{◌≡◌, ◌⊎◌, ◌↔◌, ℕ, ◌+◌, ◌-◌, ◌<◌, ◌≤◌, Bool, true, false, List, [], ◌∷◌, ◌++◌, append_assoc, refl, sym, ap, subst, ◌∙◌, inl, inr, arith}
use Rattle.std.proofs.lemmas.Bool.{false≢true}
use Rattle.std.proofs.lemmas.Bool.Decides.{nat_tests}
use Rattle.std.specs.Prelude.{IsTrue, map}
use Rattle.std.specs.Int.Digits.{AllBelowBase, number_from_digits}
use Rattle.asn1_der_items.specs.Arcs.{AreNumbers}
use Rattle.asn1_values.specs.Numbers.{IsShortest}
use Rattle.asn1_contents.specs.RelativeOids.{IsRelativeOid, are_numbers, is_relative_oid}
use Rattle.asn1_contents.proofs.Days.{both}
use Rattle.asn1_contents.proofs.NumbersOfArcs.{allowed}

-- some arcs have these octets
abbrev Arcs : List ℕ → Type 0
Arcs octets = (arcs : List ℕ) × AreNumbers arcs octets

-- a number and its last digit, and more
ended : (leading : List ℕ) (last : ℕ) (rest : List ℕ) → AllBelowBase 128 (leading ++ last ∷ []) → IsShortest leading → Arcs rest →
    Arcs (map (λ d. d + 128) leading ++ last ∷ rest)
ended leading last rest below shortest more = (
  number_from_digits 128 (leading ++ last ∷ []) ∷ more.0,
  record {
    first = map (λ d. d + 128) leading ++ last ∷ [];
    others = rest;
    is_first = record { leading = leading; last = last; are = refl; digits = below; value = refl; shortest = shortest };
    are_others = more.1;
    are = sym (append_assoc (map (λ d. d + 128) leading) (last ∷ []) rest);
  },
)

-- digits below 128, and another
below_more : (leading : List ℕ) (last : ℕ) → AllBelowBase 128 leading → last < 128 → AllBelowBase 128 (leading ++ last ∷ [])
below_more [] last below less = (less, tt)
below_more (d ∷ leading) last below less = (below.0, below_more leading last below.1 less)

-- the digits of an octet with bit 8
moved : (leading : List ℕ) (o : ℕ) (rest : List ℕ) → 128 ≤ o →
    map (λ d. d + 128) (leading ++ (o - 128) ∷ []) ++ rest ≡ map (λ d. d + 128) leading ++ o ∷ rest
moved [] o rest high = (let e : o - 128 + 128 ≡ o = omega (arith, high) in ap (λ n. n ∷ rest) e)
moved (d ∷ leading) o rest high = ap (λ l. (d + 128) ∷ l) (moved leading o rest high)

-- a first digit that is not 0 stays so
shortest_more : (d : ℕ) (leading more : List ℕ) → IsShortest (d ∷ leading) → IsShortest ((d ∷ leading) ++ more)
shortest_more d leading more shortest = shortest

-- one digit that is not 0
shortest_one : (d : ℕ) (more : List ℕ) → 0 < d → IsShortest (d ∷ more)
shortest_one d more some e = grind (arith, e, some)

-- an octet without bit 8 ends a number
after_low : (begun : Bool) (o : ℕ) (rest : List ℕ) → o < 128 → are_numbers begun (o ∷ rest) ≡ true → are_numbers false rest ≡ true
after_low begun o rest low e = grind (arith, nat_tests, both, e, low)

-- an octet with bit 8 goes on
after_high : (begun : Bool) (o : ℕ) (rest : List ℕ) → 128 ≤ o → are_numbers begun (o ∷ rest) ≡ true → are_numbers true rest ≡ true
after_high begun o rest high e = grind (arith, nat_tests, both, e, high)

-- the first of a number is not 80
after_first : (o : ℕ) (rest : List ℕ) → 128 ≤ o → are_numbers false (o ∷ rest) ≡ true → 0 < o - 128
after_first o rest high e = grind (arith, nat_tests, both, e, high)

-- a number goes on with a digit
next_digit : (o : ℕ) → o < 256 → 128 ≤ o → o - 128 < 128
next_digit o fit high = grind arith

-- either
low_or_high : (o : ℕ) → (o < 128) ⊎ (128 ≤ o)
low_or_high o = grind arith

-- by either
abbrev by_either : {A : Type 0} (o : ℕ) → (o < 128 → A) → (128 ≤ o → A) → A
by_either o on_low on_high = either (low_or_high o) on_low on_high
  where
    either : {A : Type 0} → (o < 128) ⊎ (128 ≤ o) → (o < 128 → A) → (128 ≤ o → A) → A
    either (inl low) on_low on_high = on_low low
    either (inr high) on_low on_high = on_high high

-- whether a number has begun: it has leading digits
abbrev begun : List ℕ → Bool
begun [] = false
begun (d ∷ leading) = true

begun_more : (leading : List ℕ) (d : ℕ) → true ≡ begun (leading ++ d ∷ [])
begun_more [] d = refl
begun_more (c ∷ leading) d = refl

-- leading digits and another begin with no 0
shortest_next : (leading : List ℕ) (o : ℕ) (rest : List ℕ) → 128 ≤ o → IsShortest leading → are_numbers (begun leading) (o ∷ rest) ≡ true →
    IsShortest (leading ++ (o - 128) ∷ [])
shortest_next [] o rest high shortest e = shortest_one (o - 128) [] (after_first o rest high e)
shortest_next (d ∷ leading) o rest high shortest e = shortest

-- the rest of a number behind its leading digits, and more
walk : (octets leading : List ℕ) → AllBelowBase 128 leading → IsShortest leading → AllBelowBase 256 octets →
    are_numbers (begun leading) octets ≡ true → Arcs (map (λ d. d + 128) leading ++ octets)
walk [] [] below shortest fit e = ([], refl)
walk [] (d ∷ leading) below shortest fit e = absurd (false≢true e)
walk (o ∷ rest) leading below shortest fit e = by_either o
    (λ low. ended leading o rest (below_more leading o below low) shortest
    (walk rest [] tt (λ none. cc) fit.1 (after_low (begun leading) o rest low e)))
    (λ high. subst Arcs (moved leading o rest high)
    (walk rest (leading ++ (o - 128) ∷ []) (below_more leading (o - 128) below (next_digit o fit.0 high))
    (shortest_next leading o rest high shortest e) fit.1
    (ap (λ b. are_numbers b rest) (sym (begun_more leading (o - 128))) ∙ after_high (begun leading) o rest high e)))

-- octets that are a RELATIVE-OID have arcs
pub of_octets : (octets : List ℕ) → AllBelowBase 256 octets → IsTrue (is_relative_oid octets) → IsRelativeOid octets
of_octets [] fit e = absurd (false≢true e)
of_octets (o ∷ rest) fit e = some (walk (o ∷ rest) [] tt (λ none. cc) fit e)
  where
    some : Arcs (o ∷ rest) → IsRelativeOid (o ∷ rest)
    some ([], are) = absurd (cc are)
    some (first ∷ others, are) = record { first = first; others = others; are = are }

-- octets are a RELATIVE-OID if and only if they are those of one arc or more
pub relative_oids : (octets : List ℕ) → AllBelowBase 256 octets → IsTrue (is_relative_oid octets) ↔ IsRelativeOid octets
relative_oids octets fit = (of_octets octets fit, λ own. allowed own.first own.others octets own.are)
