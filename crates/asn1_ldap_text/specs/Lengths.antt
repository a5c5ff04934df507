-- Values that are shown by their lengths alone.
use Rattle.std.specs.Prelude.{ℕ, List, [], ◌++◌, None, Option, Some, codes, length}
use Rattle.std.specs.Fmt.{decimal}

-- a label, and how many octets there are
abbrev pub length_text : List ℕ → List ℕ → List ℕ
length_text label octets = label ++ (codes " of length " ++ decimal (length octets))

-- the same of a value, if there is one
abbrev pub optional_length : List ℕ → Option (List ℕ) → List ℕ
optional_length label (Some octets) = length_text label octets
optional_length label None = []
