-- The facets of a value that constraints see (X.680, 51).
use Rattle.std.specs.Prelude.{ℕ, ℤ, ◌≤◌, Bool, List, [], Option, None, Some, IsSomeAnd}
use Rattle.std.specs.List.{AllPass}
use Rattle.asn1_bounds.specs.Admitted.{HasLength, HasValue}
use Rattle.asn1_ranges.specs.declared.bounded.Bounded.{Bounded}

-- The sizes that a value has (51.5): one, or each from one on, as named bits have, behind which 0 bits mean nothing (22.7).
pub data Extent : Type 0 where
  exactly : ℕ → Extent
  at_least : ℕ → Extent

-- The sizes of a value, if its type has any: how many elements, bits, octets or characters there are. Its number, if it is one. Its
-- characters, by their numbers.
pub record Facets : Type 0 where
  pub extent : Option Extent
  pub number : Option ℤ
  pub characters : List ℕ

-- one of the sizes is a member of the bound
abbrev pub HasExtentIn : Bounded ℕ → Extent → Type 0
HasExtentIn sizes (exactly n) = HasLength sizes n
HasExtentIn sizes (at_least n) = (m : ℕ) × (n ≤ m) × HasLength sizes m

-- the value has a size that is a member of the bound
abbrev pub HasSizeIn : Bounded ℕ → Facets → Type 0
HasSizeIn sizes f = IsSomeAnd f.extent (HasExtentIn sizes)

-- the value is a number that is a member of the bound (51.4)
abbrev pub HasNumberIn : Bounded ℤ → Facets → Type 0
HasNumberIn numbers f = IsSomeAnd f.number (HasValue numbers)

-- each character of the value passes the test of an alphabet (51.7)
abbrev pub HasOnly : (ℕ → Bool) → Facets → Type 0
HasOnly allows f = AllPass allows f.characters

-- a value of this size
abbrev pub sized : ℕ → Facets
sized n = record { extent = Some (exactly n); number = None; characters = [] }

-- a value of this size and each greater one
abbrev pub growing : ℕ → Facets
growing n = record { extent = Some (at_least n); number = None; characters = [] }

-- a whole number
abbrev pub numbered : ℤ → Facets
numbered n = record { extent = None; number = Some n; characters = [] }

-- a string of this size, with these characters
abbrev pub textual : ℕ → List ℕ → Facets
textual n characters = record { extent = Some (exactly n); number = None; characters = characters }
