-- The bytes behind an identifier.
use Rattle.std.proofs.Common.{◌≡◌, ℕ, ◌≤◌, ◌%◌, Bool, true, false, List, [], ◌∷◌, Some, arith, length, ap}
use Rattle.std.specs.Prelude.{nat_lt, if◌then◌else◌}
use Rattle.asn1_certificate_rules.specs.Headers.{behind_identifier, behind_septets}

some_is : {x y : List ℕ} → Some x ≡ Some y → x ≡ y
some_is e = cc

-- bytes behind the first of some, or behind a number, are not more than these
behind_first : (first : Bool) (octets rest : List ℕ) → (behind_septets octets ≡ Some rest → length rest ≤ length octets) →
    (if first then Some octets else behind_septets octets) ≡ Some rest → length rest ≤ length octets
behind_first true octets rest septets is = omega (arith, ap length (some_is is))
behind_first false octets rest septets is = septets is

pub behind_septets-shorter : (octets rest : List ℕ) → behind_septets octets ≡ Some rest → length rest ≤ length octets
behind_septets-shorter [] rest is = cc
behind_septets-shorter (o ∷ octets) rest is = omega (arith, behind_first (nat_lt o 128) octets rest (behind_septets-shorter octets rest) is)

pub behind_identifier-shorter : (bytes rest : List ℕ) → behind_identifier bytes ≡ Some rest → length rest ≤ length bytes
behind_identifier-shorter [] rest is = cc
behind_identifier-shorter (o ∷ octets) rest is = omega (arith, behind_first (nat_lt (o % 32) 31) octets rest (behind_septets-shorter octets rest) is)
