use Rattle.std.proofs.Common.{ap, arith, length}
use Rattle.asn1_strings.proofs.BitOctets.{view_long}
use Rattle.asn1_strings.proofs.strings.bit_vec.BitVec.len.Goals as goal

pub returns : goal.returns
returns c = omega (arith, ap length c.self.view_is, view_long c.self.inside.octets.items c.self.inside.unused)
