-- How many bytes have not been read.
use Rattle.std.specs.Prelude.{ℕ, ◌+◌, List, [], ◌∷◌, length}
use Rattle.asn1_elements.specs.declared.decoder.ElementDecoder.{ElementDecoder}
use Rattle.asn1_items.specs.Slices.{left_inside, left_outside}
use Rattle.asn1_items.specs.declared.slices.Slices.{Slices}

-- how many bytes are in lists
abbrev pub bytes_in : List (List ℕ) → ℕ
bytes_in [] = 0
bytes_in (bytes ∷ lists) = length bytes + bytes_in lists

-- how many bytes are left of the innermost list and of those outside it
abbrev pub bytes_left : Slices → ℕ
bytes_left s = length (left_inside s) + bytes_in (left_outside s)

-- how many bytes a decoder has not read, of all scopes that are open
abbrev pub unread : {C : Type 0} → ElementDecoder C → ℕ
unread d = bytes_left d.state.slices
