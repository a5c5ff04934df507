use Rattle.std.proofs.Common.{◌≡◌}
use Rattle.asn1_der_items.specs.Paths.{after_elements}
use Rattle.asn1_der_items.proofs.path.after_elements.Given as goal

abbrev pub invariant-loop-before : goal.invariant-loop-before
invariant-loop-before l = record { same : after_elements l.before l.left ≡ after_elements l.fn.number l.fn.bytes }

abbrev pub decreases-loop-before : goal.decreases-loop-before
decreases-loop-before l = l.before
