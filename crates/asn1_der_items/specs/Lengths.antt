-- The length octets of an element (X.690, 8.1.3 and 10.1): definite, and as few as there can be.
use Rattle.std.specs.Prelude.{◌≡◌, ◌⊎◌, ℕ, ◌+◌, ◌-◌, ◌<◌, ◌≤◌, ◌^◌, Bool, false, ◌&&◌, Result, MatchResult, Option, None, Some, List, [], ◌∷◌, ◌++◌, suc, length, nat_le, nat_lt, take, drop, if◌then◌else◌}
use Rattle.asn1_values.specs.Numbers.{IsMagnitude, magnitude}
use Rattle.asn1_der_items.specs.Base128.{Front}
use Rattle.asn1_der_items.specs.declared.error.ElementError.{ElementError}
use Rattle.asn1_der_items.specs.declared.error.ElementError.TheVariants.{Memory}
use Rattle.asn1_items.specs.Numbers.{Appended}

-- A length below 128 is one octet (8.1.3.4).
pub record IsShortForm (size : ℕ) (octets : List ℕ) : Type 0 where
  pub are : octets ≡ size ∷ []
  pub below : size < 128

-- Any other is an octet that says how many follow, with bit 8 set, and the length in these, the highest first (8.1.3.5). It
-- is below 2^64.
pub record IsLongForm (size : ℕ) (octets : List ℕ) : Type 0 where
  pub digits : List ℕ
  pub are : octets ≡ (length digits + 128) ∷ digits
  pub value : magnitude digits ≡ size
  pub shortest : IsMagnitude digits
  pub not_short : 128 ≤ size
  pub fits : size < 2 ^ 64

-- The octets are this length.
abbrev pub IsLength : ℕ → List ℕ → Type 0
IsLength size octets = IsShortForm size octets ⊎ IsLongForm size octets

-- The bytes are these contents octets with their length in front of them.
pub record IsMeasured (contents bytes : List ℕ) : Type 0 where
  pub size : List ℕ
  pub is_size : IsLength (length contents) size
  pub are : bytes ≡ size ++ contents

-- A call that writes the length of the bytes from this index on in front of them, over the byte before that index.
abbrev pub WritesLength : {V : Type 0} → ℕ → List ℕ → List ℕ → Result V ElementError → Type 0
WritesLength start old new result =
    (before contents : List ℕ) (room : ℕ) → old ≡ before ++ room ∷ contents → start ≡ suc (length before) →
    MatchResult result (λ _. Appended (IsMeasured contents) before new) (λ e. e ≡ Memory)

-- whether there is a first digit, and it is not 0
abbrev pub begins_with_digit : List ℕ → Bool
begins_with_digit [] = false
begins_with_digit (d ∷ digits) = nat_lt 0 d

-- the length in the next octets, as many as this, if it is below 2^64
abbrev pub long_length_at : ℕ → List ℕ → Option Front
long_length_at count bytes = if nat_le count (length bytes) && begins_with_digit (take count bytes) && nat_le 128 (magnitude (take count bytes)) && nat_lt (magnitude (take count bytes)) (2 ^ 64)
    then Some (record { number = magnitude (take count bytes); rest = drop count bytes })
    else None

-- the length with which the bytes begin
abbrev pub length_at : List ℕ → Option Front
length_at [] = None
length_at (o ∷ rest) = if nat_lt o 128 then Some (record { number = o; rest = rest }) else long_length_at (o - 128) rest
