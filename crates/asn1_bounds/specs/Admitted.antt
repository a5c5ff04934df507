-- The three kinds of constraint that a set can hold: of values, of sizes and of permitted alphabets.
use Rattle.std.specs.Prelude.{ℕ, ℤ, pos, negsuc, FitsSigned, Bool, nat_eq, List, Contains, Some, IfSome}
use Rattle.std.specs.List.{filter, list_any}
use Rattle.std.specs.Int.{w128}
use Rattle.std.specs.Option.{option_map}
use Rattle.asn1_ranges.specs.declared.bounded.Bounded.{Bounded}
use Rattle.asn1_ranges.specs.declared.bounded.Bounded.TheVariants as bounded
use Rattle.asn1_bounds.specs.declared.alphabet.PermittedAlphabet.{PermittedAlphabet}
use Rattle.asn1_ranges.specs.Ends.{start_of, end_of}
use Rattle.asn1_ranges.specs.Intersection.{intersection_or}
use Rattle.asn1_ranges.specs.Members.{IsMember}

-- the number is a member of a value constraint's bound
abbrev pub HasValue : Bounded ℤ → ℤ → Type 0
HasValue bound n = IsMember (λ z. z) bound n

-- the length is a member of a size constraint's bound
abbrev pub HasLength : Bounded ℕ → ℕ → Type 0
HasLength bound n = IsMember pos bound (pos n)

-- the characters of a permitted alphabet, in the order and as often as they were given
abbrev pub characters : PermittedAlphabet → List ℕ
characters alphabet = alphabet

-- the character is one of the alphabet's
abbrev pub IsPermitted : PermittedAlphabet → ℕ → Type 0
IsPermitted alphabet character = Contains (characters alphabet) character

-- the same, as a test
abbrev pub is_permitted : PermittedAlphabet → ℕ → Bool
is_permitted alphabet character = list_any (λ c. nat_eq c character) (characters alphabet)

-- the characters of the first alphabet that are in the second too, in the first one's order and as often as they are in it
abbrev pub common_characters : PermittedAlphabet → PermittedAlphabet → PermittedAlphabet
common_characters a b = filter (is_permitted b) (characters a)

-- the intersection of two bounds of values; where they have no value in common, a bound without members
abbrev pub value_intersection : Bounded ℤ → Bounded ℤ → Bounded ℤ
value_intersection a b = intersection_or (λ z. z) (bounded.Range (Some (pos 1)) (Some (negsuc 0))) a b

-- the intersection of two bounds of sizes; where they have no length in common, a bound without members
abbrev pub size_intersection : Bounded ℕ → Bounded ℕ → Bounded ℕ
size_intersection a b = intersection_or pos (bounded.Range (Some 1) (Some 0)) a b

-- the bound with each value as the whole number that it is
module _ {T : Type 0} (number : T → ℤ) where
  abbrev pub numbers : Bounded T → Bounded ℤ
  numbers bounded.None = bounded.None
  numbers (bounded.Single v) = bounded.Single (number v)
  numbers (bounded.Range start end) = bounded.Range (option_map number start) (option_map number end)

-- an `i128` can hold each end of a bound of lengths
abbrev pub HasNarrowEnds : Bounded ℕ → Type 0
HasNarrowEnds b = IfSome (start_of b) (λ s. FitsSigned w128 (pos s)) × IfSome (end_of b) (λ e. FitsSigned w128 (pos e))
