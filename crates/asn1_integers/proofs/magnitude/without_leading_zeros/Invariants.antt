use Rattle.std.proofs.Common.{◌≡◌, length}
use Rattle.asn1_integers.specs.Numbers.{magnitude}
use Rattle.asn1_integers.proofs.magnitude.without_leading_zeros.Given as goal

abbrev pub invariant-loop-rest : goal.invariant-loop-rest
invariant-loop-rest l = magnitude l.rest ≡ magnitude l.initial.rest

abbrev pub decreases-loop-rest : goal.decreases-loop-rest
decreases-loop-rest l = length l.rest
