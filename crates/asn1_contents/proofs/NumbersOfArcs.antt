-- Numbers to the base 128, one after another, are the contents of a RELATIVE-OID.
use Rattle.std.proofs.Common.{◌≡◌, ℕ, ◌+◌, ◌<◌, ◌^◌, Bool, true, false, List, [], ◌∷◌, ◌++◌, append_assoc, refl, sym, ap, ◌∙◌, arith, subst, lit<, lit≤, ◌*◌}
use Rattle.std.proofs.lemmas.Bool.Decides.{nat_tests}
use Rattle.std.proofs.lemmas.List.Elements.{All-cons}
use Rattle.std.specs.Prelude.{All, IsTrue, drop, map}
use Rattle.std.specs.Int.Digits.{AllBelowBase}
use Rattle.asn1_values.specs.Numbers.{IsShortest}
use Rattle.asn1_items.specs.Numbers.{Appended}
use Rattle.asn1_der_items.proofs.Encodings.{one_base128}
use Rattle.asn1_der_items.specs.Arcs.{AreArcs, AreNumbers}
use Rattle.asn1_der_items.specs.Base128.{IsBase128}
use Rattle.asn1_contents.specs.RelativeOids.{are_numbers, is_relative_oid}

-- an octet without bit 8 ends a number
ends : (begun : Bool) (o : ℕ) (more : List ℕ) → o < 128 → are_numbers begun (o ∷ more) ≡ are_numbers false more
ends begun o more below = grind (arith, nat_tests)

-- an octet with bit 8 goes on
goes_on : (d : ℕ) (more : List ℕ) → are_numbers true ((d + 128) ∷ more) ≡ are_numbers true more
goes_on d more = grind (arith, nat_tests)

-- the first one of a number is not 80
begins : (d : ℕ) (more : List ℕ) → 0 < d → are_numbers false ((d + 128) ∷ more) ≡ are_numbers true more
begins d more some = grind (arith, nat_tests)

-- the rest of a number, and more
rest_of_number : (leading : List ℕ) (last : ℕ) (more : List ℕ) → last < 128 →
    are_numbers true (map (λ d. d + 128) leading ++ (last ∷ more)) ≡ are_numbers false more
rest_of_number [] last more below = ends true last more below
rest_of_number (d ∷ leading) last more below = goes_on d (map (λ d. d + 128) leading ++ (last ∷ more)) ∙ rest_of_number leading last more below

-- a number, and more
number : (leading : List ℕ) (last : ℕ) (more : List ℕ) → last < 128 → IsShortest leading →
    are_numbers false (map (λ d. d + 128) leading ++ (last ∷ more)) ≡ are_numbers false more
number [] last more below shortest = ends false last more below
number (d ∷ leading) last more below shortest =
    begins d (map (λ d. d + 128) leading ++ (last ∷ more)) (positive d leading shortest) ∙ rest_of_number leading last more below
  where
    positive : (d : ℕ) (leading : List ℕ) → IsShortest (d ∷ leading) → 0 < d
    positive d leading shortest = grind (arith, shortest)

-- the last of the digits is below the base
last_below : (leading : List ℕ) (last : ℕ) → AllBelowBase 128 (leading ++ last ∷ []) → last < 128
last_below [] last below = below.0
last_below (d ∷ leading) last below = last_below leading last below.1

-- numbers one after another
pub numbers : (arcs octets : List ℕ) → AreNumbers arcs octets → are_numbers false octets ≡ true
numbers [] octets are = rw are refl
numbers (arc ∷ arcs) octets are =
    ap (are_numbers false) (are.are ∙ ap (λ first. first ++ are.others) are.is_first.are ∙ append_assoc (map (λ d. d + 128) are.is_first.leading) (are.is_first.last ∷ []) are.others)
    ∙ number are.is_first.leading are.is_first.last are.others (last_below are.is_first.leading are.is_first.last are.is_first.digits) are.is_first.shortest
    ∙ numbers arcs are.others are.are_others

-- those of one arc or more are the contents of a RELATIVE-OID
pub allowed : (arc : ℕ) (arcs octets : List ℕ) → AreNumbers (arc ∷ arcs) octets → IsTrue (is_relative_oid octets)
allowed arc arcs [] are = absurd (nothing are.is_first.leading are.is_first.last are.others (are.are ∙ ap (λ first. first ++ are.others) are.is_first.are))
  where
    nothing : (leading : List ℕ) (last : ℕ) (others : List ℕ) → [] ≡ (map (λ d. d + 128) leading ++ last ∷ []) ++ others → ⊥
    nothing [] last others e = cc
    nothing (d ∷ leading) last others e = cc
allowed arc arcs (o ∷ octets) are = numbers (arc ∷ arcs) (o ∷ octets) are

-- the number 0 is one octet
zero_digit : IsBase128 0 (0 ∷ [])
zero_digit = record { leading = []; last = 0; are = refl; digits = (lit< tt, tt); value = refl; shortest = λ e. cc }

-- arcs behind the two at the root
pub rooted : (arcs octets : List ℕ) → All (λ arc. arc < 2 ^ 32) arcs → AreNumbers arcs octets → AreArcs (0 ∷ 0 ∷ arcs) (0 ∷ octets)
rooted arcs octets fit are = record {
  first = 0;
  second = 0;
  rest = arcs;
  are = refl;
  numbers = record { first = 0 ∷ []; others = octets; is_first = zero_digit; are_others = are; are = refl };
  first_of_three = lit≤ tt;
  second_below = λ _. lit< tt;
  fit = All-cons (λ arc. arc < 2 ^ 32) 0 (0 ∷ arcs) (lit< tt) (All-cons (λ arc. arc < 2 ^ 32) 0 arcs (lit< tt) fit);
}

-- and without these
pub unrooted : (arcs octets : List ℕ) → AreArcs (0 ∷ 0 ∷ arcs) octets → AreNumbers arcs (drop 1 octets)
unrooted arcs octets are = subst (λ (rest : List ℕ). AreNumbers rest (drop 1 octets)) rest (subst (AreNumbers are.rest) (sym others) are.numbers.are_others)
  where
    rest : are.rest ≡ arcs
    rest = cc

    zero : are.first * 40 + are.second ≡ 0
    zero = (let first : are.first ≡ 0 = cc in let second : are.second ≡ 0 = cc in omega arith)

    first : are.numbers.first ≡ 0 ∷ []
    first = one_base128 0 are.numbers.first (0 ∷ []) (subst (λ (n : ℕ). IsBase128 n are.numbers.first) zero are.numbers.is_first) zero_digit

    others : drop 1 octets ≡ are.numbers.others
    others = ap (drop 1) (are.numbers.are ∙ ap (λ x. x ++ are.numbers.others) first)

-- what stands behind the first octet of arcs that were appended behind the two at the root
pub made : (arcs all start new own : List ℕ) → all ≡ 0 ∷ 0 ∷ arcs → start ≡ [] → Appended (AreArcs all) start new → own ≡ drop 1 new → AreNumbers arcs own
made arcs all start new own is none appended rest = subst (AreNumbers arcs) (sym (rest ∙ ap (drop 1) joined)) (unrooted arcs appended.added have)
  where
    have : AreArcs (0 ∷ 0 ∷ arcs) appended.added
    have = subst (λ (l : List ℕ). AreArcs l appended.added) is appended.is

    joined : new ≡ appended.added
    joined = appended.joined ∙ ap (λ l. l ++ appended.added) none

-- octets of arcs that are no contents of a RELATIVE-OID are those of none
pub none_are_left : (arcs own : List ℕ) → AreNumbers arcs own → (IsTrue (is_relative_oid own) → ⊥) → arcs ≡ []
none_are_left [] own are refused = refl
none_are_left (arc ∷ arcs) own are refused = absurd (refused (allowed arc arcs own are))

-- the octets of numbers
pub one_numbers : (numbers own other : List ℕ) → AreNumbers numbers own → AreNumbers numbers other → own ≡ other
one_numbers [] own other a b = a ∙ sym b
one_numbers (n ∷ numbers) own other a b =
    a.are
    ∙ (λ i. one_base128 n a.first b.first a.is_first b.is_first i ++ one_numbers numbers a.others b.others a.are_others b.are_others i)
    ∙ sym b.are
