-- The forms of times in DER (X.690, 11.7 and 11.8).
use Rattle.std.specs.Prelude.{ℕ, Bool, false, not, if◌then◌else◌, ◌&&◌, ◌||◌, ◌==◌, List, [], ◌∷◌, drop, take}
use Rattle.std.specs.Char.{is_ascii_digit}
use Rattle.std.specs.List.{list_all}

-- the octets are Z alone
abbrev pub is_zone : List ℕ → Bool
is_zone (o ∷ []) = o == 90
is_zone _ = false

-- the octets, after digits of a fraction of which the last is this one, are further digits and Z: the last digit is not 0
abbrev pub are_fraction_digits : ℕ → List ℕ → Bool
are_fraction_digits last [] = false
are_fraction_digits last (o ∷ octets) = if is_ascii_digit o then are_fraction_digits o octets else (not (last == 48) && is_zone (o ∷ octets))

-- the octets are a point, digits of which the last is not 0, and Z
abbrev pub is_fraction : List ℕ → Bool
is_fraction [] = false
is_fraction (o ∷ octets) = o == 46 && are_fraction_digits 48 octets

-- The hours with which digits begin are 24, as midnight may be written in BER: in DER it is 000000 (11.7.5 and 11.8.3).
abbrev pub are_hours_24 : List ℕ → Bool
are_hours_24 (tens ∷ ones ∷ digits) = tens == 50 && ones == 52
are_hours_24 _ = false

-- the octets are YYMMDDHHMMSSZ: twelve digits, whose hours are not 24, and Z
abbrev pub is_utc_time : List ℕ → Bool
is_utc_time octets = list_all is_ascii_digit (take 12 octets) && not (are_hours_24 (drop 6 (take 12 octets))) && is_zone (drop 12 octets)

-- the octets are YYYYMMDDHHMMSSZ: fourteen digits, whose hours are not 24, a fraction of seconds or none, and Z
abbrev pub is_generalized_time : List ℕ → Bool
is_generalized_time octets =
    list_all is_ascii_digit (take 14 octets) && not (are_hours_24 (drop 8 (take 14 octets))) && (is_zone (drop 14 octets) || is_fraction (drop 14 octets))
