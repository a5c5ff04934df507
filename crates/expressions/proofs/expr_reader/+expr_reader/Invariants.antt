use Rattle.std.proofs.Common.{◌+◌, ◌*◌}
use Rattle.expressions.proofs.expr_reader.+expr_reader.Given as goal

abbrev pub decreases-read_expr : goal.decreases-read_expr
decreases-read_expr g l = 2 * g.D.Decoder.reader.depth_left l.decoder.now + 1

abbrev pub decreases-read : goal.decreases-read
decreases-read g l = 2 * l.depth
