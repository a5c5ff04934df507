-- The elements of a choice: the texts between the spaces outside all brackets.
use Rattle.std.specs.Prelude.{ℕ, ◌+◌, ◌-◌, ◌&&◌, ◌==◌, if◌then◌else◌, List, [], ◌∷◌}
use Rattle.std.specs.List.{onto_first}

-- how many brackets are open after the byte, where this many are open before it
abbrev pub depth_after : ℕ → ℕ → ℕ
depth_after depth byte = if byte == 40 then depth + 1 else (if byte == 41 then depth - 1 else depth)

-- what is between the spaces outside all brackets, in a text before which this many brackets are open
abbrev pub elements_at : ℕ → List ℕ → List (List ℕ)
elements_at depth [] = [] ∷ []
elements_at depth (byte ∷ bytes) =
    if (depth == 0) && (byte == 32) then [] ∷ elements_at 0 bytes else onto_first byte (elements_at (depth_after depth byte) bytes)

-- the elements between two brackets: none, or one more than there are spaces outside all inner brackets
abbrev pub elements_of : List ℕ → List (List ℕ)
elements_of [] = []
elements_of (byte ∷ bytes) = elements_at 0 (byte ∷ bytes)
