use Rattle.std.proofs.Common.{◌≡◌, ◌++◌}
use Rattle.asn1_rules.specs.Pieces.{joined}
use Rattle.asn1_rules.proofs.stream_round_trips.cut.Given as goal

abbrev pub invariant-loop-length : goal.invariant-loop-length
invariant-loop-length l = joined l.pieces.items ++ l.rest ≡ l.bytes
