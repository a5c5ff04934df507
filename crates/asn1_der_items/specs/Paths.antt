-- The positions of elements that are inside others.
use Rattle.std.specs.Prelude.{ℕ, zero, suc, ◌+◌, ◌-◌, List, [], ◌∷◌, Option, Some, length}
use Rattle.std.specs.Option.{option_and_then, option_map}
use Rattle.asn1_der_items.specs.Elements.{Element, element_at}

-- what is after this many elements, where there are as many
abbrev pub after_elements : ℕ → List ℕ → Option (List ℕ)
after_elements zero bytes = Some bytes
after_elements (suc n) bytes = option_and_then (λ (e : Element). after_elements n e.rest) (element_at bytes)

-- The position, from 0, to which a path leads, whether or not an element begins there. An empty path leads to the first byte. Else it begins
-- with how many elements are before the wanted one inside the element with which the bytes begin, and its rest leads on from there.
abbrev pub position_at_path : List ℕ → List ℕ → Option ℕ
position_at_path bytes [] = Some 0
position_at_path bytes (number ∷ path) =
    option_and_then (λ (e : Element).
    option_and_then (λ left. option_map (λ position. length bytes - length e.rest - length left + position) (position_at_path left path))
    (after_elements number e.contents)) (element_at bytes)
