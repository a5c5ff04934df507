use Rattle.std.proofs.Common.{ap, arith, length}
use Rattle.std.proofs.lemmas.Bool.Decides.{nat_tests}
use Rattle.asn1_strings.proofs.BitOctets.{view_long}
use Rattle.asn1_strings.proofs.strings.bit_vec.BitVec.is_empty.Goals as goal

pub returns : goal.returns
returns c =
    let same = ap length c.self.view_is in
    let long = view_long c.self.inside.octets.items c.self.inside.unused in
    let low = c.self.invariant.below_eight in
    grind (arith, nat_tests, c.is_empty.ensures, same, long, low, c.self.inside.octets.ok)
