-- The contents octets of a UniversalString (X.680, 41.1; X.690, 8.23.7).
use Rattle.std.proofs.Math.Utf8.{scalar}
use Rattle.std.specs.Char.{IsScalar}
use Rattle.std.specs.Int.{from_be_bytes, to_be_bytes, w32}
use Rattle.std.specs.List.{flat_map}
use Rattle.std.specs.Option.{is_some, option_map}
use Rattle.std.specs.Prelude.{◌≡◌, ◌∷◌, ℕ, [], All, Bool, List, None, Option, Some, false, true}

-- the octets of characters: of each its number in ISO/IEC 10646, four octets, of which the first one is the most significant
abbrev pub universal_octets : List ℕ → List ℕ
universal_octets characters = flat_map (λ character. to_be_bytes w32 character) characters

-- the character of this number before others, where it is the number of a character, as the first argument says, and else none
abbrev pub after_number : Bool → ℕ → Option (List ℕ) → Option (List ℕ)
after_number true number more = option_map (λ cs. number ∷ cs) more
after_number false number more = None

-- the characters of octets that are their numbers, four octets each
abbrev pub universal_characters : List ℕ → Option (List ℕ)
universal_characters [] = Some []
universal_characters (a ∷ b ∷ c ∷ d ∷ more) =
    let number = from_be_bytes w32 (a ∷ b ∷ c ∷ d ∷ []) in after_number (scalar number) number (universal_characters more)
universal_characters others = None

-- whether octets are the contents of a UniversalString
abbrev pub is_universal_string : List ℕ → Bool
is_universal_string octets = is_some (universal_characters octets)

-- Octets are those of characters.
pub record IsUniversalString (octets : List ℕ) : Type 0 where
  pub characters : List ℕ
  pub are_characters : All IsScalar characters
  pub are : octets ≡ universal_octets characters
