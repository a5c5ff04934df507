use Rattle.std.proofs.Common.{◌≡◌, ◌<◌, length}
use Rattle.std.specs.Prelude.{All}
use Rattle.asn1_der_items.specs.Integers.{twos_complement}
use Rattle.asn1_der_items.proofs.integers.shortest.Given as goal

abbrev pub invariant-loop-rest : goal.invariant-loop-rest
invariant-loop-rest l = record { same : twos_complement l.rest ≡ twos_complement l.fn.octets; some : 0 < length l.fn.octets → 0 < length l.rest; are_octets : All (λ o. o < 256) l.rest }

abbrev pub decreases-loop-rest : goal.decreases-loop-rest
decreases-loop-rest l = length l.rest
