-- The text of a bound.
use Rattle.std.specs.Prelude.{ℕ, List, [], Option, codes}
use Rattle.std.specs.Fmt.{◌++?◌}
use Rattle.std.specs.Option.{option_map_or}
use Rattle.std.specs.declared.option.Option.TheVariants.{Some}
use Rattle.asn1_ranges.specs.declared.bounded.Bounded.{Bounded}
use Rattle.asn1_ranges.specs.declared.bounded.Bounded.TheVariants.{None, Single, Range}

-- `text` is the text of a value, or nothing where its type states none
module _ {T : Type 0} (text : T → Option (List ℕ)) where
  -- the text of an end, which is empty where the end is missing
  abbrev pub end_text : Option T → Option (List ℕ)
  end_text end = option_map_or text end (Some [])

  -- a single as its value, and a range as its ends with two dots between them
  abbrev pub bound_text : Bounded T → Option (List ℕ)
  bound_text None = Some (codes "..")
  bound_text (Single v) = text v
  bound_text (Range start end) = end_text start ++? (Some (codes "..") ++? end_text end)
