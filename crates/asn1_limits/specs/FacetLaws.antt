-- Constraints see the same of equal values.
use Rattle.std.specs.Prelude.{◌≡◌, ℕ, ℤ, pos, Bool, true, false, ◌&&◌, nat_eq, List, [], ◌∷◌, length, map, refl}
use Rattle.std.specs.Bool.{beq}
use Rattle.std.specs.Cmp.{signed_Decides, unsigned_Decides}
use Rattle.std.specs.Cmp.Lexicographic.{pointwise}
use Rattle.std.specs.Ordering.{int_eq}
use Rattle.std.proofs.Common.{ap}
use Rattle.std.proofs.lemmas.Bool.{and_parts}
use Rattle.std.specs.Str.{chars}
use lib.Pointwise.{pointwise_decides, pointwise_long}
use Rattle.asn1_limits.specs.Facets.{growing, numbered, sized, textual}

-- lists that are equal element by element are of one size
pub same_size : {T : Type 0} (eq : T → T → Bool) (xs ys : List T) → pointwise eq xs ys ≡ true → sized (length xs) ≡ sized (length ys)
same_size eq xs ys equal = ap sized (pointwise_long eq xs ys equal)

pub same_growth : {T : Type 0} (eq : T → T → Bool) (xs ys : List T) → pointwise eq xs ys ≡ true → growing (length xs) ≡ growing (length ys)
same_growth eq xs ys equal = ap growing (pointwise_long eq xs ys equal)

-- equal whole numbers are the same
pub same_integer : (x y : ℤ) → int_eq x y ≡ true → numbered x ≡ numbered y
same_integer x y equal = ap numbered ((signed_Decides x y).0 equal)

pub same_limited_integer : (x y : ℤ) → (int_eq x y && true) ≡ true → numbered x ≡ numbered y
same_limited_integer x y equal = same_integer x y (and_parts (int_eq x y) true equal).0

pub same_natural : (x y : ℕ) → nat_eq x y ≡ true → x ≡ y
same_natural x y equal = (unsigned_Decides x y).0 equal

pub same_unsigned : (x y : ℕ) → nat_eq x y ≡ true → numbered (pos x) ≡ numbered (pos y)
same_unsigned x y equal = ap (λ n. numbered (pos n)) (same_natural x y equal)

-- texts of the same octets are of one size, with the same characters
pub same_characters : (xs ys : List ℕ) → pointwise nat_eq xs ys ≡ true → textual (length (chars xs)) (chars xs) ≡ textual (length (chars ys)) (chars ys)
same_characters xs ys equal = ap (λ octets. textual (length (chars octets)) (chars octets)) ((pointwise_decides unsigned_Decides xs ys).0 equal)

-- a bit as a number
abbrev pub bit_number : Bool → ℕ
bit_number false = 0
bit_number true = 1

pub same_bit : (a b : Bool) → beq a b ≡ true → bit_number a ≡ bit_number b
same_bit false false equal = refl
same_bit false true equal = absurd (let wrong = equal in cc)
same_bit true false equal = absurd (let wrong = equal in cc)
same_bit true true equal = refl

module _ {T : Type 0} (eq : T → T → Bool) (number : T → ℕ) (same_number : (x y : T) → eq x y ≡ true → number x ≡ number y) where
  -- units that are equal one by one have the same numbers
  same_numbers : (xs ys : List T) → pointwise eq xs ys ≡ true → map number xs ≡ map number ys
  same_numbers [] [] equal = refl
  same_numbers [] (y ∷ ys) equal = absurd (let wrong = equal in cc)
  same_numbers (x ∷ xs) [] equal = absurd (let wrong = equal in cc)
  same_numbers (x ∷ xs) (y ∷ ys) equal =
      let both = and_parts (eq x y) (pointwise eq xs ys) equal in
      λ i. same_number x y both.0 i ∷ same_numbers xs ys both.1 i

  pub same_text : (xs ys : List T) → pointwise eq xs ys ≡ true → textual (length xs) (map number xs) ≡ textual (length ys) (map number ys)
  same_text xs ys equal = λ i. textual (pointwise_long eq xs ys equal i) (same_numbers xs ys equal i)
