-- Bits of keys.
use Rattle.std.specs.Prelude.{ℕ, zero, suc, ◌-◌, ◌<◌, ◌≤◌, ◌^◌, Bool, false, ◌||◌, ◌==◌, List, [], ◌++◌, codes, slice_get, unwrap_or, if◌then◌else◌}

-- a number of n bits: it is below 2 to the n, and not below half of that
pub record IsBitLength (number n : ℕ) : Type 0 where
  pub below : number < 2 ^ n
  pub least : 1 ≤ n → 2 ^ (n - 1) ≤ number

-- the name of the usage whose bit has this number (RFC 5280, 4.2.1.3)
abbrev pub usage_name : ℕ → List ℕ
usage_name n =
    if n == 0 then codes "digitalSignature"
    else (if n == 1 then codes "nonRepudiation"
    else (if n == 2 then codes "keyEncipherment"
    else (if n == 3 then codes "dataEncipherment"
    else (if n == 4 then codes "keyAgreement"
    else (if n == 5 then codes "keyCertSign"
    else (if n == 6 then codes "cRLSign"
    else (if n == 7 then codes "encipherOnly"
    else codes "decipherOnly")))))))

-- the same, after a comma where another comes before
abbrev pub usage_text : Bool → ℕ → List ℕ
usage_text is_later n = if is_later then codes ", " ++ usage_name n else usage_name n

-- the same, where the bit is set
abbrev pub text_if_set : Bool → Bool → ℕ → List ℕ
text_if_set set is_later n = if set then usage_text is_later n else []

-- whether a bit is set
abbrev pub is_set : List Bool → ℕ → Bool
is_set bits n = unwrap_or (slice_get bits n) false

-- whether one of the first n bits is
abbrev pub is_some_set : List Bool → ℕ → Bool
is_some_set bits zero = false
is_some_set bits (suc n) = is_some_set bits n || is_set bits n

-- the names of the usages whose bits are set, of the first n
abbrev pub first_usages : List Bool → ℕ → List ℕ
first_usages bits zero = []
first_usages bits (suc n) =
    first_usages bits n ++ text_if_set (is_set bits n) (is_some_set bits n) n

-- the names of all
abbrev pub usages_text : List Bool → List ℕ
usages_text bits = first_usages bits 9
