-- The contents octets of a REAL in the normal form of DER (X.680, 21; X.690, 8.5 and 11.3).
use Rattle.std.specs.Prelude.{◌≡◌, ◌⊎◌, ℕ, Bool, true, false, ◌<◌, ◌+◌, ◌-◌, ◌%◌, ◌&&◌, ◌||◌, not, ◌==◌, nat_lt, if◌then◌else◌, List, [], ◌∷◌, ◌++◌, length, slice_index, take, drop}
use Rattle.asn1_contents.specs.Digits.{is_digit, are_digits}
use Rattle.asn1_contents.specs.declared.real_parts.SpecialReal.{SpecialReal}
use Rattle.asn1_contents.specs.declared.real_parts.SpecialReal.TheVariants.{PlusInfinity, MinusInfinity, NotANumber, MinusZero}

-- whether an octet stands alone: plus infinity, minus infinity, NOT-A-NUMBER or minus zero (8.5.9)
abbrev pub is_special : ℕ → Bool
is_special o = not (nat_lt o 64) && nat_lt o 68

-- whether octets are an exponent in as few as it needs: the first nine bits of two or more are not equal (8.5.7.4)
abbrev pub is_shortest : List ℕ → Bool
is_shortest octets =
    (length octets == 1)
    || (not ((slice_index octets 0 == 0) && nat_lt (slice_index octets 1) 128)
    && not ((slice_index octets 0 == 255) && not (nat_lt (slice_index octets 1) 128)))

-- whether octets are an odd number in as few as it needs (11.3.1)
abbrev pub is_odd_number : List ℕ → Bool
is_odd_number octets =
    not (length octets == 0) && not (slice_index octets 0 == 0) && (slice_index octets (length octets - 1) % 2 == 1)

-- whether octets are an exponent of this many, and a mantissa
abbrev pub has_parts : ℕ → List ℕ → Bool
has_parts count octets =
    nat_lt count (length octets) && is_shortest (take count octets) && is_odd_number (drop count octets)

-- whether octets are the length of an exponent of four or more, the exponent, and a mantissa
abbrev pub has_long_exponent : List ℕ → Bool
has_long_exponent [] = false
has_long_exponent (count ∷ rest) = not (nat_lt count 4) && has_parts count rest

-- a digit but 0
abbrev pub is_nonzero_digit : ℕ → Bool
is_nonzero_digit o = is_digit o && not (o == 48)

-- whether octets are a number without a leading zero
abbrev pub is_number : List ℕ → Bool
is_number [] = false
is_number (o ∷ rest) = is_nonzero_digit o && are_digits rest

-- whether octets are the exponent of a decimal number: +0, or a number, with a hyphen in front or without (11.3.2.6)
abbrev pub is_power : List ℕ → Bool
is_power [] = false
is_power (o ∷ rest) =
    if o == 43 then (length rest == 1) && (slice_index rest 0 == 48) else
    (if o == 45 then is_number rest else is_number (o ∷ rest))

-- whether octets are the letter E and an exponent
abbrev pub is_exponent : List ℕ → Bool
is_exponent [] = false
is_exponent (o ∷ rest) = (o == 69) && is_power rest

-- whether octets go on with a mantissa behind a digit, up to a full stop behind one that is not 0 (11.3.2.4 and 11.3.2.5)
abbrev pub goes_on : ℕ → List ℕ → Bool
goes_on digit [] = false
goes_on digit (o ∷ rest) =
    if o == 46 then not (digit == 48) && is_exponent rest else is_digit o && goes_on o rest

-- whether octets are a decimal number without a sign
abbrev pub is_unsigned : List ℕ → Bool
is_unsigned [] = false
is_unsigned (o ∷ rest) = is_nonzero_digit o && goes_on o rest

-- whether octets are a decimal number in the form NR3 of ISO 6093 (11.3.2)
abbrev pub is_decimal : List ℕ → Bool
is_decimal [] = false
is_decimal (o ∷ rest) = if o == 45 then is_unsigned rest else is_unsigned (o ∷ rest)

-- whether a first octet and the others are the contents of a number but 0. The first of a binary number to the base 2 has the sign and the
-- length of the exponent (8.5.7); that of a decimal number in the form NR3 is 3 (8.5.8)
abbrev pub is_of_form : ℕ → List ℕ → Bool
is_of_form first rest =
    if first == 3 then is_decimal rest else
    (if is_special first then length rest == 0 else
    (if (first == 128) || (first == 192) then has_parts 1 rest else
    (if (first == 129) || (first == 193) then has_parts 2 rest else
    (if (first == 130) || (first == 194) then has_parts 3 rest else
    (if (first == 131) || (first == 195) then has_long_exponent rest else false)))))

-- whether octets are the contents of a REAL; those of 0 are none (8.5.2)
abbrev pub is_real : List ℕ → Bool
is_real [] = true
is_real (first ∷ rest) = is_of_form first rest

-- the first octet of a binary number, and the length of its exponent behind it if that has four octets or more
abbrev pub head_of : Bool → ℕ → List ℕ
head_of is_negative count =
    if nat_lt count 4 then (if is_negative then 191 + count else 127 + count) ∷ []
    else (if is_negative then 195 else 131) ∷ count ∷ []

-- the octets of a binary number with this exponent and this mantissa
abbrev pub binary : Bool → List ℕ → List ℕ → List ℕ
binary is_negative exponent mantissa = head_of is_negative (length exponent) ++ (exponent ++ mantissa)

-- the last of some octets, of which this is the first
abbrev pub last_of : ℕ → List ℕ → ℕ
last_of o [] = o
last_of o (p ∷ rest) = last_of p rest

-- Octets are the digits of a mantissa, with a zero at neither end.
pub record IsMantissa (octets : List ℕ) : Type 0 where
  pub first : ℕ
  pub rest : List ℕ
  pub are : octets ≡ first ∷ rest
  pub begins : is_nonzero_digit first ≡ true
  pub digits : are_digits rest ≡ true
  pub ends : (last_of first rest == 48) ≡ false

-- A text is a mantissa, with a hyphen in front or without, a full stop, the letter E and an exponent.
pub record IsDecimal (text : List ℕ) : Type 0 where
  pub mantissa : List ℕ
  pub power : List ℕ
  pub is_mantissa : IsMantissa mantissa
  pub is_power : is_power power ≡ true
  pub are : (text ≡ mantissa ++ (46 ∷ 69 ∷ power)) ⊎ (text ≡ 45 ∷ (mantissa ++ (46 ∷ 69 ∷ power)))

-- Octets are an exponent in as few as it needs, and an odd mantissa in as few as it needs, behind the octets that tell the sign and the
-- length of the exponent.
pub record IsBinary (octets : List ℕ) : Type 0 where
  pub is_negative : Bool
  pub exponent : List ℕ
  pub mantissa : List ℕ
  pub some : 0 < length exponent
  pub short : length exponent < 256
  pub shortest : is_shortest exponent ≡ true
  pub odd : is_odd_number mantissa ≡ true
  pub are : octets ≡ binary is_negative exponent mantissa

-- Octets are those of a REAL: none for 0; one that stands alone; those of a binary number; or 3 and the text of a decimal number.
abbrev pub IsReal : List ℕ → Type 0
IsReal octets =
    (octets ≡ [])
    ⊎ (((o : ℕ) × (is_special o ≡ true) × (octets ≡ o ∷ []))
    ⊎ (IsBinary octets
    ⊎ ((text : List ℕ) × (octets ≡ 3 ∷ text) × IsDecimal text)))

-- the octet of each value that has no mantissa and no exponent, but 0 (8.5.9)
abbrev pub special_octet : SpecialReal → ℕ
special_octet PlusInfinity = 64
special_octet MinusInfinity = 65
special_octet NotANumber = 66
special_octet MinusZero = 67
