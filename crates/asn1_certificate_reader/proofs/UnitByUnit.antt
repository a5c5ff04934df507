-- Octets that are the numbers of characters, by two.
use Rattle.std.proofs.Common.{◌≡◌, ◌≤◌, ◌<◌, ◌==◌, ◌&&◌, ℕ, List, [], ◌∷◌, arith, drop, get_or, length, refl}
use Rattle.std.proofs.Math.Utf8.{scalar}
use Rattle.std.specs.Int.{from_be_bytes, w16}
use Rattle.asn1_certificate_reader.specs.Units.{are_bmp_characters}

-- the first two octets, and the rest
pub first_two : (octets : List ℕ) → 2 ≤ length octets →
    are_bmp_characters octets ≡ (scalar (from_be_bytes w16 (get_or octets 0 0 ∷ get_or octets 1 0 ∷ [])) && are_bmp_characters (drop 2 octets))
first_two [] long = absurd (omega (arith, long))
first_two (a ∷ []) long = absurd (omega (arith, long))
first_two (a ∷ b ∷ more) long = refl

-- fewer than two
pub below_two : (octets : List ℕ) → length octets < 2 → are_bmp_characters octets ≡ (length octets == 0)
below_two [] short = refl
below_two (a ∷ []) short = refl
below_two (a ∷ b ∷ more) short = absurd (omega (arith, short))
