use Rattle.std.proofs.Common.{◌+◌, ◌*◌}
use Rattle.asn1_user_types.proofs.parcel_reader.+parcel_reader.Given as goal

abbrev pub decreases-read_parcel : goal.decreases-read_parcel
decreases-read_parcel g l = 2 * g.D.Decoder.reader.depth_left l.decoder.now

abbrev pub decreases-read_alternative : goal.decreases-read_alternative
decreases-read_alternative g l = 2 * g.D.Decoder.reader.depth_left l.decoder.now + 1
