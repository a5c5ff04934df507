use Rattle.asn1_certificate_text.proofs.Sizes.{bits_of_cut}
use Rattle.asn1_certificate_text.proofs.bits.bit_length.Goals as goal

pub returns-in-len1-up : goal.returns-in-len1-up
returns-in-len1-up c = λ shortest.
    rw c.used_bits.ensures (bits_of_cut c.args.octets.now c.type_inv.octets shortest c.in-len1-up.len_at_least)
