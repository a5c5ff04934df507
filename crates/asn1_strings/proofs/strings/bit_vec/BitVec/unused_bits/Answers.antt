use Rattle.std.proofs.Common.{ap, arith, length}
use Rattle.asn1_strings.proofs.BitOctets.{unused_within, view_long}
use Rattle.asn1_strings.proofs.strings.bit_vec.BitVec.unused_bits.Goals as goal

pub returns-clause-whole : goal.returns-clause-whole
returns-clause-whole c =
    omega (arith, ap length c.self.view_is, view_long c.self.inside.octets.items c.self.inside.unused, unused_within _ _ c.self.invariant)
