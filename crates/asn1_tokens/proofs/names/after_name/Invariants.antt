use Rattle.std.proofs.Common.{◌≡◌, ◌≤◌, length}
use Rattle.asn1_tokens.specs.Items.{after_name}
use Rattle.asn1_tokens.proofs.names.after_name.Given as goal

abbrev pub invariant-loop-rest : goal.invariant-loop-rest
invariant-loop-rest l = (after_name l.rest ≡ after_name l.text) × (length l.rest ≤ length l.text)

abbrev pub decreases-loop-rest : goal.decreases-loop-rest
decreases-loop-rest l = length l.rest
