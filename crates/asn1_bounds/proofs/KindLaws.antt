-- The laws of intersection at the two kinds of constraint that have bounds.
use Rattle.std.proofs.Common.{◌≡◌, ◌↔◌, ℕ, ℤ, pos, negsuc, ◌<ℤ◌, arith}
use Rattle.std.proofs.lemmas.Int.{ints}
use Rattle.asn1_bounds.specs.Admitted.{HasValue, HasLength, value_intersection, size_intersection}
use Rattle.asn1_ranges.specs.declared.bounded.Bounded.{Bounded}
use Rattle.asn1_ranges.proofs.IntersectionLaws.{intersection_or-comm, intersection_or-assoc, intersection_or-members}

same-natural : (a b : ℕ) → pos a ≡ pos b → a ≡ b
same-natural a b h = cc

below-one : negsuc 0 <ℤ pos 1
below-one = omega (arith, ints)

below-one-natural : pos 0 <ℤ pos 1
below-one-natural = omega (arith, ints)

pub value_intersection-comm : (a b : Bounded ℤ) → value_intersection a b ≡ value_intersection b a
value_intersection-comm = intersection_or-comm (λ n. n) (λ a b h. h) (pos 1) (negsuc 0) below-one

pub value_intersection-assoc : (a b c : Bounded ℤ) → value_intersection (value_intersection a b) c ≡ value_intersection a (value_intersection b c)
value_intersection-assoc = intersection_or-assoc (λ n. n) (λ a b h. h) (pos 1) (negsuc 0) below-one

pub value_intersection-members : (a b : Bounded ℤ) (n : ℤ) → HasValue (value_intersection a b) n ↔ (HasValue a n × HasValue b n)
value_intersection-members = intersection_or-members (λ n. n) (λ a b h. h) (pos 1) (negsuc 0) below-one

pub size_intersection-comm : (a b : Bounded ℕ) → size_intersection a b ≡ size_intersection b a
size_intersection-comm = intersection_or-comm pos same-natural 1 0 below-one-natural

pub size_intersection-assoc : (a b c : Bounded ℕ) → size_intersection (size_intersection a b) c ≡ size_intersection a (size_intersection b c)
size_intersection-assoc = intersection_or-assoc pos same-natural 1 0 below-one-natural

pub size_intersection-members : (a b : Bounded ℕ) (n : ℕ) → HasLength (size_intersection a b) n ↔ (HasLength a n × HasLength b n)
size_intersection-members a b n = intersection_or-members pos same-natural 1 0 below-one-natural a b (pos n)
