use Rattle.std.proofs.Common.{◌≡◌, ◌-◌, suc, length, arith}
use Rattle.asn1_strings.proofs.BitOctets.{set_last}
use Rattle.asn1_strings.proofs.strings.bit_vec.clear_last.Goals as goal

pub returns-then-count-gt0-clause-kept : goal.returns-then-count-gt0-clause-kept
returns-then-count-gt0-clause-kept c =
    let end : suc (length c.args.octets.now - 1) ≡ length c.args.octets.now = omega (arith, c.if-count-gt0.true) in
    (set_last c.args.octets.now (length c.args.octets.now - 1) c.cleared.result c.args.unused end c.requires.few c.cleared.ensures.bits).kept

pub returns-then-count-gt0-clause-zeros : goal.returns-then-count-gt0-clause-zeros
returns-then-count-gt0-clause-zeros c =
    let end : suc (length c.args.octets.now - 1) ≡ length c.args.octets.now = omega (arith, c.if-count-gt0.true) in
    (set_last c.args.octets.now (length c.args.octets.now - 1) c.cleared.result c.args.unused end c.requires.few c.cleared.ensures.bits).zeros
