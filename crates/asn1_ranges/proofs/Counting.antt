-- The numbers from a first to a last one are as many as `numbers_between` says.
use Rattle.std.proofs.Common.{◌≡◌, ℕ, ◌+◌, ◌<◌, ℤ, pos, negsuc, ◌+ℤ◌, ◌-ℤ◌, ◌≤ℤ◌, Some, refl, arith}
use Rattle.std.proofs.lemmas.Int.{ints}
use Rattle.asn1_ranges.specs.Count.{at_least_zero, numbers_between, HasCount}
use Rattle.asn1_ranges.specs.Members.{IsMember}
use Rattle.asn1_ranges.specs.Ends.{start_of, end_of}
use Rattle.asn1_ranges.specs.declared.bounded.Bounded.{Bounded}
use Rattle.asn1_ranges.specs.declared.bounded.Bounded.TheVariants as bounded

below : (z : ℤ) (i : ℕ) → i < at_least_zero z → pos (i + 1) ≤ℤ z
below (pos n) i h = grind (arith, ints)
below (negsuc n) i h = grind (arith, ints)

within : (z : ℤ) (i : ℕ) → pos (i + 1) ≤ℤ z → i < at_least_zero z
within (pos n) i h = grind (arith, ints)
within (negsuc n) i h = grind (arith, ints)

natural : (z : ℤ) → pos 0 ≤ℤ z → (i : ℕ) × (z ≡ pos i)
natural (pos n) h = (n, refl)
natural (negsuc n) h = absurd (omega (arith, ints))

pub range-count : (s e : ℤ) → HasCount (λ n. (s ≤ℤ n) × (n ≤ℤ e)) (numbers_between s e)
range-count s e = record {
  nth = λ i. s +ℤ pos i;
  belongs = λ i h. let b = below (e -ℤ s +ℤ pos 1) i h in (omega (arith, ints), omega (arith, ints));
  once = λ i j same. omega (arith, ints);
  every = λ n m. let t = natural (n -ℤ s) (let m0 = m.0 in omega (arith, ints)) in let eq = t.1 in let m1 = m.1 in (t.0, within (e -ℤ s +ℤ pos 1) t.0 (omega (arith, ints)), omega (arith, ints));
}

-- one number is as many as there are from it to itself
pub single-count : (v : ℤ) → HasCount (λ n. n ≡ v) (numbers_between v v)
single-count v = record {
  nth = λ i. v +ℤ pos i;
  belongs = λ i h. let b = below (v -ℤ v +ℤ pos 1) i h in omega (arith, ints);
  once = λ i j same. omega (arith, ints);
  every = λ n same. (0, within (v -ℤ v +ℤ pos 1) 0 (omega (arith, ints)), omega (arith, ints));
}

-- a bound with both ends has the numbers between them
pub bound-count : {T : Type 0} (number : T → ℤ) (b : Bounded T) (s e : T) → start_of b ≡ Some s → end_of b ≡ Some e → HasCount (IsMember number b) (numbers_between (number s) (number e))
bound-count number bounded.None s e p q = cc
bound-count number (bounded.Single v) s e p q =
    let s-is : s ≡ v = cc in let e-is : e ≡ v = cc in rw (s-is, e-is) (single-count (number v))
bound-count number (bounded.Range start end) s e p q = rw (p, q) (range-count (number s) (number e))
