-- The comparison and the hash of bounds, and the promises of derived comparisons and copies.
use Rattle.std.specs.Prelude.{◌≡◌, ◌↔◌, ℕ, pos, Bool, true, false, ◌&&◌, IsTrue, List, ◌++◌}
use Rattle.std.specs.Hash as fed
use Rattle.std.specs.Option.{option_eq, option_cmp}
use Rattle.std.specs.Ordering.{ordering_then}
use Rattle.std.specs.declared.cmp.Ordering.{Ordering}
use Rattle.std.specs.declared.cmp.Ordering.TheVariants.{Less, Equal, Greater}
use Rattle.asn1_ranges.specs.declared.bounded.Bounded.{Bounded}
use Rattle.asn1_ranges.specs.declared.bounded.Bounded.TheVariants.{None, Single, Range}

module _ {T : Type 0} where
  -- the test is true of two values if and only if they are the same
  abbrev pub IsExactEquality : (T → T → Bool) → Type 0
  IsExactEquality eq = (a b : T) → IsTrue (eq a b) ↔ (a ≡ b)

  -- a clone is its source, and none fails
  abbrev pub ClonesExactly : (T → T → Type 0) → (T → Type 0) → Type 0
  ClonesExactly is_clone is_infallible = (source : T) → is_infallible source × ((clone : T) → is_clone source clone → clone ≡ source)

  -- bounds are equal if they are of one kind, with equal values
  abbrev pub bound_eq : (T → T → Bool) → Bounded T → Bounded T → Bool
  bound_eq eq None None = true
  bound_eq eq (Single a) (Single b) = eq a b
  bound_eq eq (Range start end) (Range other_start other_end) = option_eq eq start other_start && option_eq eq end other_end
  bound_eq eq a b = false

  -- no bound is the least, then come singles and then ranges; of ranges the start decides first, and a missing end is below
  -- each other
  abbrev pub bound_cmp : (T → T → Ordering) → Bounded T → Bounded T → Ordering
  bound_cmp cmp None None = Equal
  bound_cmp cmp None b = Less
  bound_cmp cmp (Single a) None = Greater
  bound_cmp cmp (Single a) (Single b) = cmp a b
  bound_cmp cmp (Single a) (Range start end) = Less
  bound_cmp cmp (Range start end) (Range other_start other_end) = ordering_then (option_cmp cmp start other_start) (option_cmp cmp end other_end)
  bound_cmp cmp (Range start end) b = Greater

  -- the input of a hasher for a bound: the index of its kind, and then its values
  abbrev pub bound_hash : (T → List (List ℕ)) → Bounded T → List (List ℕ)
  bound_hash hash None = fed.isize (pos 0)
  bound_hash hash (Single a) = fed.isize (pos 1) ++ hash a
  bound_hash hash (Range start end) = fed.isize (pos 2) ++ (fed.option hash start ++ fed.option hash end)
