use Rattle.std.proofs.Common.{◌≡◌, ◌-◌, suc, length, arith}
use Rattle.asn1_strings.proofs.BitOctets.{clear_at_end, end_clear}
use Rattle.asn1_strings.proofs.strings.bit_vec.has_clear_end.Goals as goal

pub returns-in-len1-up : goal.returns-in-len1-up
returns-in-len1-up c =
    let octets = c.args.octets.now in
    let end : suc (length octets - 1) ≡ length octets = omega (arith, c.in-len1-up.len_at_least) in (
      λ yes. end_clear octets (length octets - 1) c.args.unused end c.requires.few (c.has_clear_bits.ensures.0 yes),
      λ zeros. c.has_clear_bits.ensures.1 (clear_at_end octets (length octets - 1) c.args.unused end c.requires.few zeros),
    )
