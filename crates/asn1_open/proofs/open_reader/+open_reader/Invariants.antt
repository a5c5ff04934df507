use Rattle.std.proofs.Common.{◌+◌, ◌*◌}
use Rattle.asn1_open.proofs.open_reader.+open_reader.Given as goal

abbrev pub decreases-read_open : goal.decreases-read_open
decreases-read_open g l = 3 * g.D.Decoder.reader.depth_left l.decoder.now

abbrev pub decreases-read_alternative : goal.decreases-read_alternative
decreases-read_alternative g l = 3 * g.D.Decoder.reader.depth_left l.decoder.now + 2

abbrev pub decreases-read_instance : goal.decreases-read_instance
decreases-read_instance g l = 3 * g.D.Decoder.reader.depth_left l.decoder.now + 1

abbrev pub decreases-read_components : goal.decreases-read_components
decreases-read_components g l = 3 * g.D.Decoder.reader.depth_left l.decoder.now + 1
