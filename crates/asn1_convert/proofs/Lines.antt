-- The octets of a value.
use Rattle.std.proofs.Common.{◌≡◌, ◌<◌, ◌-◌, ℕ, zero, suc, Some, ap, arith}
use Rattle.asn1_convert.specs.Lines.{last_octet, sum_within}

pub last_octet_is : (first count : ℕ) → 0 < count → last_octet first (Some count) ≡ Some (sum_within first (count - 1))
last_octet_is first zero some = absurd (omega arith)
last_octet_is first (suc more) some = let same : more ≡ suc more - 1 = omega arith in ap (λ n. Some (sum_within first n)) same
