use Rattle.std.proofs.Common.{◌≡◌, ◌+◌, ◌≤◌, length}
use Rattle.asn1_tokens.specs.Positions.{octets_behind}
use Rattle.asn1_tokens.proofs.position.column_of.Given as goal

abbrev pub invariant-loop-rest : goal.invariant-loop-rest
invariant-loop-rest l = (octets_behind l.column l.rest ≡ octets_behind 0 l.text) × (l.column + length l.rest ≤ length l.text)

abbrev pub decreases-loop-rest : goal.decreases-loop-rest
decreases-loop-rest l = length l.rest
