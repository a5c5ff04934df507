use Rattle.std.proofs.Common.{◌≡◌, length}
use Rattle.asn1_certificate_rules.specs.Times.{are_fraction_digits}
use Rattle.asn1_certificate_rules.proofs.times.are_fraction_digits.Given as goal

abbrev pub invariant-loop-left : goal.invariant-loop-left
invariant-loop-left l = record { same : are_fraction_digits l.last l.left ≡ are_fraction_digits 48 l.digits }

abbrev pub decreases-loop-left : goal.decreases-loop-left
decreases-loop-left l = length l.left
