use Rattle.std.proofs.Common.{◌+◌, ◌*◌}
use Rattle.expressions.proofs.chain_reader.+chain_reader.Given as goal

abbrev pub decreases-read_chain : goal.decreases-read_chain
decreases-read_chain g l = 2 * g.D.Decoder.reader.depth_left l.decoder.now + 1

abbrev pub decreases-read : goal.decreases-read
decreases-read g l = 2 * l.depth
