use Rattle.std.proofs.Common.{◌≡◌, ◌*◌, ◌-◌, ◌++◌, ◌∙◌, false, length, ap, arith}
use Rattle.std.specs.Prelude.{replicate}
use Rattle.asn1_strings.proofs.BitOctets.{unused_within, view_long}
use Rattle.asn1_strings.proofs.strings.bit_vec.BitVec.octets.Goals as goal

pub returns-clause-bits : goal.returns-clause-bits
returns-clause-bits c =
    let octets = c.self.inside.octets.items in
    let unused = c.self.inside.unused in
    let counted : unused ≡ length octets * 8 - length c.args.self.now = omega (arith, ap length c.self.view_is, view_long octets unused, unused_within octets unused c.self.invariant) in
    rw c.as_slice.ensures.value (c.self.invariant.zeros ∙ ap (λ l. l ++ replicate unused false) c.self.view_is ∙ ap (λ n. c.args.self.now ++ replicate n false) counted)

pub returns-clause-fewest : goal.returns-clause-fewest
returns-clause-fewest c =
    rw c.as_slice.ensures.value (omega (arith, ap length c.self.view_is, view_long c.self.inside.octets.items c.self.inside.unused, c.self.invariant.below_eight))
