-- The ends of a bound.
use Rattle.std.specs.Prelude.{Bool, true, false, Option, None, Some}
use Rattle.asn1_ranges.specs.declared.bounded.Bounded.{Bounded}
use Rattle.asn1_ranges.specs.declared.bounded.Bounded.TheVariants as bounded

module _ {T : Type 0} where
  -- the least value that the bound names: a single is its own start
  abbrev pub start_of : Bounded T → Option T
  start_of bounded.None = None
  start_of (bounded.Single v) = Some v
  start_of (bounded.Range start end) = start

  -- the greatest value that the bound names: a single is its own end
  abbrev pub end_of : Bounded T → Option T
  end_of bounded.None = None
  end_of (bounded.Single v) = Some v
  end_of (bounded.Range start end) = end

  -- the start of a range, from which offsets are counted: a single has none
  abbrev pub range_start : Bounded T → Option T
  range_start bounded.None = None
  range_start (bounded.Single v) = None
  range_start (bounded.Range start end) = start

  -- the bound is a single
  abbrev pub is_single : Bounded T → Bool
  is_single bounded.None = false
  is_single (bounded.Single v) = true
  is_single (bounded.Range start end) = false

  -- the bound is a range
  abbrev pub is_range : Bounded T → Bool
  is_range bounded.None = false
  is_range (bounded.Single v) = false
  is_range (bounded.Range start end) = true
