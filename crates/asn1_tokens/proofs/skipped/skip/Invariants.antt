use Rattle.std.proofs.Common.{ℕ, List, ◌≤◌, length}
use Rattle.asn1_tokens.specs.Skipped.{Skips}
use Rattle.asn1_tokens.proofs.skipped.skip.Given as goal

abbrev pub invariant-loop-after : goal.invariant-loop-after
invariant-loop-after l = ((end : List ℕ) → Skips l.rest end → Skips l.text end) × (length l.rest ≤ length l.text)

abbrev pub decreases-loop-after : goal.decreases-loop-after
decreases-loop-after l = length l.rest
