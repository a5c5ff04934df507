-- Columns.
use Rattle.std.specs.Prelude.{ℕ, ◌+◌, ◌==◌, List, [], ◌∷◌, if◌then◌else◌}

-- How many octets there are behind the last line feed of a text, after so many in the same line before it.
abbrev pub octets_behind : ℕ → List ℕ → ℕ
octets_behind before [] = before
octets_behind before (c ∷ rest) = if c == 10 then octets_behind 0 rest else octets_behind (before + 1) rest
