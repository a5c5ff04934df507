-- Ranges of characters (X.680, 51.7).
use Rattle.std.specs.Prelude.{ℕ, Bool, ◌&&◌, nat_le, List}
use Rattle.std.specs.List.{list_any}
use Rattle.asn1_limits.specs.declared.markers.alphabets.CharacterRange.{CharacterRange}

-- the character is in one of the ranges, to which their ends belong
abbrev pub is_in_ranges : List CharacterRange → ℕ → Bool
is_in_ranges ranges c = list_any (λ range. nat_le range.first c && nat_le c range.last) ranges
