-- Bits are no more than one list of octets.
use Rattle.std.proofs.Common.{◌≡◌, ◌∙◌, ℕ, zero, suc, ◌+◌, ◌*◌, ◌-◌, ◌<◌, Bool, false, List, [], ◌∷◌, ◌++◌, length, refl, sym, ap, arith}
use mathlib.Core.Bool.{beq}
use Rattle.std.proofs.lemmas.Bool.Decides.{same_from_decides}
use Rattle.std.proofs.lemmas.List.Elements.{All-head, All-tail}
use Rattle.std.specs.Bool.{Decides}
use Rattle.std.specs.Cmp.{booleans_Decides}
use Rattle.std.specs.Cmp.Lexicographic.{pointwise, pointwise_decides}
use Rattle.std.specs.Int.Digits.{AllBelowBase}
use Rattle.std.specs.Prelude.{◌/◌, ◌%◌, ◌^◌, ◌==◌, All, replicate}
use Rattle.asn1_strings.specs.Bits.{AreOfBits, bits_but, bits_of_octet, bits_of_octets}
use Rattle.asn1_strings.proofs.BitOctets.{bits_long, unused_within, view_long}

same_bit : (m n : ℕ) → m < 2 → n < 2 → (m == 1) ≡ (n == 1) → m ≡ n
same_bit zero zero low below e = refl
same_bit zero (suc zero) low below e = cc
same_bit (suc zero) zero low below e = cc
same_bit (suc zero) (suc zero) low below e = refl
same_bit (suc (suc m)) n low below e = absurd (omega arith)
same_bit zero (suc (suc n)) low below e = absurd (omega arith)
same_bit (suc zero) (suc (suc n)) low below e = absurd (omega arith)

-- the first of some bits
abbrev first_bit : List Bool → Bool
first_bit [] = false
first_bit (b ∷ bs) = b

abbrev later : List Bool → List Bool
later [] = []
later (b ∷ bs) = bs

pub same_octet : (o p : ℕ) (xs ys : List Bool) → o < 256 → p < 256 → bits_of_octet o ++ xs ≡ bits_of_octet p ++ ys → (o ≡ p) × (xs ≡ ys)
same_octet o p xs ys low below e = (
  omega (
    arith,
    same_bit (o / 128 % 2) (p / 128 % 2) (omega arith) (omega arith) (ap first_bit e),
    same_bit (o / 64 % 2) (p / 64 % 2) (omega arith) (omega arith) (ap (λ l. first_bit (later l)) e),
    same_bit (o / 32 % 2) (p / 32 % 2) (omega arith) (omega arith) (ap (λ l. first_bit (later (later l))) e),
    same_bit (o / 16 % 2) (p / 16 % 2) (omega arith) (omega arith) (ap (λ l. first_bit (later (later (later l)))) e),
    same_bit (o / 8 % 2) (p / 8 % 2) (omega arith) (omega arith) (ap (λ l. first_bit (later (later (later (later l))))) e),
    same_bit (o / 4 % 2) (p / 4 % 2) (omega arith) (omega arith) (ap (λ l. first_bit (later (later (later (later (later l)))))) e),
    same_bit (o / 2 % 2) (p / 2 % 2) (omega arith) (omega arith) (ap (λ l. first_bit (later (later (later (later (later (later l))))))) e),
    same_bit (o % 2) (p % 2) (omega arith) (omega arith) (ap (λ l. first_bit (later (later (later (later (later (later (later l)))))))) e),
  ),
  ap (λ l. later (later (later (later (later (later (later (later l)))))))) e,
)

pub same_octets : (xs ys : List ℕ) → AllBelowBase 256 xs → AllBelowBase 256 ys → bits_of_octets xs ≡ bits_of_octets ys → xs ≡ ys
same_octets [] [] below more e = refl
same_octets [] (y ∷ ys) below more e = absurd (omega (arith, ap length e, bits_long (y ∷ ys)))
same_octets (x ∷ xs) [] below more e = absurd (omega (arith, ap length e, bits_long (x ∷ xs)))
same_octets (x ∷ xs) (y ∷ ys) below more e =
    let same = same_octet x y (bits_of_octets xs) (bits_of_octets ys) below.0 more.0 e in
    ap (λ o. o ∷ xs) same.0 ∙ ap (λ l. y ∷ l) (same_octets xs ys below.1 more.1 same.1)

-- So octets of one list of bits are the same, with as many unused bits.
pub record AreSame (octets : List ℕ) (unused : ℕ) (others : List ℕ) (other : ℕ) : Type 0 where
  pub alike : octets ≡ others
  pub as_many : unused ≡ other

pub one_list : (octets others : List ℕ) (unused other : ℕ) → AllBelowBase 256 octets → AllBelowBase 256 others → AreOfBits octets unused → AreOfBits others other →
    bits_but unused octets ≡ bits_but other others → AreSame octets unused others other
one_list octets others unused other under more are too same =
    let long : length octets * 8 - unused ≡ length others * 8 - other = sym (view_long octets unused) ∙ ap length same ∙ view_long others other in
    let within = unused_within octets unused are in
    let too_within = unused_within others other too in
    let as_many : unused ≡ other = omega (arith, long, within, too_within, are.below_eight, too.below_eight) in
    record {
      alike = same_octets octets others under more (are.zeros ∙ ap (λ l. l ++ replicate unused false) same ∙ ap (λ n. bits_but other others ++ replicate n false) as_many ∙ sym too.zeros);
      as_many = as_many;
    }

-- octets are below 256
pub below : (octets : List ℕ) → All (λ octet. octet < 2 ^ 8) octets → AllBelowBase 256 octets
below [] all = tt
below (o ∷ octets) all = (All-head (λ octet. octet < 2 ^ 8) o octets all, below octets (All-tail (λ octet. octet < 2 ^ 8) o octets all))

-- so bits are compared by their octets
pub compared : (octets others : List ℕ) (unused other : ℕ) (bits list : List Bool) → bits_but unused octets ≡ bits → bits_but other others ≡ list →
    AllBelowBase 256 octets → AllBelowBase 256 others → AreOfBits octets unused → AreOfBits others other →
    (r : Bool) → Decides r (AreSame octets unused others other) → r ≡ pointwise beq bits list
compared octets others unused other bits list view too_view under more are too r decides =
    same_from_decides r (pointwise beq bits list) (
      λ yes. let same = decides.0 yes in sym view ∙ ap (λ n. bits_but n octets) same.as_many ∙ ap (bits_but other) same.alike ∙ too_view,
      λ same. decides.1 (one_list octets others unused other under more are too (view ∙ same ∙ sym too_view)),
    )
    (pointwise_decides booleans_Decides bits list)
