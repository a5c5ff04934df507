-- How a text is cut into parts.
use Rattle.std.specs.Prelude.{ℕ, ◌+◌, ◌==◌, List, [], ◌∷◌, Option, option_map, position, take, drop}
use Rattle.std.specs.Option.{option_map_or}

-- a text cut at the first byte of that value: what comes before it, and what comes after it
unfoldable pub split_once : ℕ → List ℕ → Option (List ℕ × List ℕ)
split_once separator text =
    option_map (λ before. (take before text, drop (before + 1) text)) (position (λ byte. byte == separator) text)

-- the parts of a text: its first word, its second, and what comes after these, with a space between each two
unfoldable pub parts_of : List ℕ → List (List ℕ)
parts_of text =
    option_map_or
    (λ (first, rest). option_map_or (λ (second, last). first ∷ second ∷ last ∷ []) (split_once 32 rest) (first ∷ rest ∷ []))
    (split_once 32 text)
    (text ∷ [])
