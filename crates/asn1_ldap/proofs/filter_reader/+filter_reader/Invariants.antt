use Rattle.std.proofs.Common.{◌+◌, ◌*◌}
use Rattle.asn1_ldap.proofs.filter_reader.+filter_reader.Given as goal

abbrev pub decreases-read_filter : goal.decreases-read_filter
decreases-read_filter g l = 2 * g.D.Decoder.reader.depth_left l.decoder.now + 1

abbrev pub decreases-read : goal.decreases-read
decreases-read g l = 2 * l.depth
