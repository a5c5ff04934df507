-- The lines of an input.
use Rattle.std.specs.Prelude.{ℕ, ◌==◌, List, [], ◌∷◌, Option, Some, None, nat_le, length, if◌then◌else◌}
use Rattle.std.specs.List.{slice_split}

-- what is between the line feeds; after the last of them there is a line too, and where that is empty, so is its answer
abbrev pub lines_of : List ℕ → List (List ℕ)
lines_of bytes = slice_split (λ byte. byte == 10) bytes

-- all but the last
abbrev pub but_last : List (List ℕ) → List (List ℕ)
but_last [] = []
but_last (line ∷ []) = []
but_last (line ∷ next ∷ more) = line ∷ but_last (next ∷ more)

-- the last, or nothing where there is none
abbrev pub last : List (List ℕ) → List ℕ
last [] = []
last (line ∷ []) = line
last (line ∷ next ∷ more) = last (next ∷ more)

-- the lines that a line feed ends
abbrev pub whole_lines : List ℕ → List (List ℕ)
whole_lines bytes = but_last (lines_of bytes)

-- the bytes after the last line feed
abbrev pub unended : List ℕ → List ℕ
unended bytes = last (lines_of bytes)

-- a line as far as it is looked at: one of more than 4096 bytes is as good as none
abbrev pub within_limit : List ℕ → Option (List ℕ)
within_limit line = if nat_le (length line) 4096 then Some line else None
