use Rattle.std.proofs.Common.{◌≡◌, [], ℕ, ◌+◌, ◌≤◌, length}
use Rattle.asn1_convert.specs.Conversions.{HaveConverted}
use Rattle.asn1_convert.proofs.stream.convert_values.Given as goal

abbrev pub invariant-loop-rest : goal.invariant-loop-rest
invariant-loop-rest g l =
    HaveConverted g.T.AsnType.meaning g.T.PartialEq.eq g.T.Decode.refusals l.fn.depth l.fn.from l.fn.to l.fn.input l.rest l.output.items l.before ×
    (l.before + length l.rest ≤ length l.fn.input)

abbrev pub decreases-loop-rest : goal.decreases-loop-rest
decreases-loop-rest g l = length l.rest
