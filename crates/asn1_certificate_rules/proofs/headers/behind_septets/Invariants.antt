use Rattle.std.proofs.Common.{◌≡◌, length}
use Rattle.asn1_certificate_rules.specs.Headers.{behind_septets}
use Rattle.asn1_certificate_rules.proofs.headers.behind_septets.Given as goal

abbrev pub invariant-loop-left : goal.invariant-loop-left
invariant-loop-left l = record { same : behind_septets l.left ≡ behind_septets l.octets }

abbrev pub decreases-loop-left : goal.decreases-loop-left
decreases-loop-left l = length l.left
