use Rattle.std.proofs.Common.{◌+◌, ◌*◌}
use Rattle.asn1_recursive.proofs.nested.+nested_reader.Given as goal

abbrev pub decreases-read_nested : goal.decreases-read_nested
decreases-read_nested g l = 2 * g.D.Decoder.reader.depth_left l.decoder.now

abbrev pub decreases-read_alternative : goal.decreases-read_alternative
decreases-read_alternative g l = 2 * g.D.Decoder.reader.depth_left l.decoder.now + 1
