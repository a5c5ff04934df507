-- Whether the octets of a BMPString are characters.
use Rattle.std.proofs.Math.Utf8.{scalar}
use Rattle.std.specs.Int.{from_be_bytes, w16}
use Rattle.std.specs.Prelude.{ℕ, Bool, List, [], ◌∷◌, ◌&&◌, false, true}

-- whether octets are the numbers of characters, two octets each, as those of a BMPString are (X.690, 8.23.8)
abbrev pub are_bmp_characters : List ℕ → Bool
are_bmp_characters [] = true
are_bmp_characters (a ∷ []) = false
are_bmp_characters (a ∷ b ∷ more) = scalar (from_be_bytes w16 (a ∷ b ∷ [])) && are_bmp_characters more
