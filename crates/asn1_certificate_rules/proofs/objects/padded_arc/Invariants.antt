use Rattle.std.proofs.Common.{ℕ, ◌<◌}
use Rattle.asn1_certificate_rules.specs.Contents.{IsPaddedArc}
use Rattle.asn1_certificate_rules.proofs.objects.padded_arc.Given as goal

abbrev pub invariant-loop-index : goal.invariant-loop-index
invariant-loop-index l = (k : ℕ) → k < l.index → IsPaddedArc l.octets k → ⊥
