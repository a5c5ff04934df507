-- Octets in hexadecimal.
use Rattle.std.specs.Prelude.{ℕ, List, [], ◌∷◌, ◌++◌}
use Rattle.std.specs.List.{flat_map}
use Rattle.asn1_values.specs.Text.{byte_text}

-- octets, two digits each, with a colon before each
abbrev pub after_colons : List ℕ → List ℕ
after_colons octets = flat_map (λ octet. 58 ∷ byte_text octet) octets

-- octets, with a colon between each two
abbrev pub octets_text : List ℕ → List ℕ
octets_text [] = []
octets_text (first ∷ rest) = byte_text first ++ after_colons rest
