-- In how many octets the ends of a bound can be written.
use Rattle.std.specs.Prelude.{ℕ, ◌*◌, ◌-◌, ◌^◌, ℤ, pos, neg_ℤ, int_lt, int_le, Bool, true, false, ◌&&◌, List, [], ◌∷◌, Option, None, Some, find}
use Rattle.std.specs.Option.{option_map_or}
use Rattle.asn1_ranges.specs.declared.bounded.Bounded.{Bounded}
use Rattle.asn1_ranges.specs.Ends.{start_of, end_of}

-- the start is negative or missing
abbrev pub is_signed : Bounded ℤ → Bool
is_signed b = option_map_or (λ start. int_lt start (pos 0)) (start_of b) true

-- this many octets hold the number, in two's complement where there is a sign
abbrev pub fits_octets : Bool → ℕ → ℤ → Bool
fits_octets true octets n = int_le (neg_ℤ (pos (2 ^ (8 * octets - 1)))) n && int_lt n (pos (2 ^ (8 * octets - 1)))
fits_octets false octets n = int_le (pos 0) n && int_lt n (pos (2 ^ (8 * octets)))

-- the numbers of octets that are tried, from the least on
abbrev pub widths : List ℕ
widths = 1 ∷ 2 ∷ 4 ∷ 8 ∷ []

-- the first width that holds both ends, where both are there
abbrev pub least_width : Bool → Option ℤ → Option ℤ → Option ℕ
least_width signed (Some start) (Some end) = find (λ octets. fits_octets signed octets start && fits_octets signed octets end) widths
least_width signed start end = None

-- the least number of octets that holds both ends of the bound, with a sign where its start needs one
abbrev pub octets_of : Bounded ℤ → Option ℕ
octets_of b = least_width (is_signed b) (start_of b) (end_of b)
