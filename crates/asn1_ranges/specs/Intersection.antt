-- The intersection of two bounds, in its exact shape.
-- `number` says which whole number a value of the bounds' type is.
use Rattle.std.specs.Prelude.{ℤ, int_lt, Bool, ◌||◌, Option, None, Some, unwrap_or, if◌then◌else◌}
use Rattle.asn1_ranges.specs.declared.bounded.Bounded.{Bounded}
use Rattle.asn1_ranges.specs.declared.bounded.Bounded.TheVariants as bounded
use Rattle.asn1_ranges.specs.Ends.{start_of, end_of, is_single}

module _ {T : Type 0} (number : T → ℤ) where
  -- the greater of two starts, or the one that is there
  abbrev pub greater_start : Option T → Option T → Option T
  greater_start None b = b
  greater_start (Some x) None = Some x
  greater_start (Some x) (Some y) = Some (if int_lt (number y) (number x) then x else y)

  -- the lesser of two ends, or the one that is there
  abbrev pub lesser_end : Option T → Option T → Option T
  lesser_end None b = b
  lesser_end (Some x) None = Some x
  lesser_end (Some x) (Some y) = Some (if int_lt (number y) (number x) then y else x)

  -- the bound between two ends, a single or a range, and none if the start is above the end
  abbrev pub bound_between : Bool → Option T → Option T → Option (Bounded T)
  bound_between single (Some s) (Some e) =
      if int_lt (number e) (number s) then None else Some (if single then bounded.Single s else bounded.Range (Some s) (Some e))
  bound_between single start end = Some (bounded.Range start end)

  -- two bounds that both restrict leave what lies between the greater start and the lesser end, as a single where
  -- either of them is one
  abbrev pub common : Bounded T → Bounded T → Option (Bounded T)
  common a b = bound_between (is_single a || is_single b) (greater_start (start_of a) (start_of b)) (lesser_end (end_of a) (end_of b))

  -- no bound keeps the other side unchanged
  abbrev pub intersection : Bounded T → Bounded T → Option (Bounded T)
  intersection bounded.None b = Some b
  intersection a bounded.None = Some a
  intersection a b = common a b

  -- the intersection, and in place of none a bound without members
  abbrev pub intersection_or : Bounded T → Bounded T → Bounded T → Bounded T
  intersection_or empty a b = unwrap_or (intersection a b) empty
