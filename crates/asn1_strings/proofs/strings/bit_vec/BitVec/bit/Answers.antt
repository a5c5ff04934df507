use Rattle.std.proofs.Common.{◌∙◌, ◌<◌, ◌*◌, ◌-◌, ◌/◌, ◌%◌, false, length, ap, sym, arith}
use Rattle.std.proofs.Math.ListN.{get_or}
use Rattle.std.proofs.lemmas.Option.{get_or_from_slice_get, slice_get-get_or}
use Rattle.asn1_strings.proofs.BitOctets.{bit_is, view_long}
use Rattle.asn1_strings.specs.Bits.{bits_but, bits_of_octet}
use Rattle.asn1_strings.proofs.strings.bit_vec.BitVec.bit.Goals as goal

pub returns : goal.returns
returns c =
    let octets = c.self.inside.octets.items in
    let unused = c.self.inside.unused in
    let place = c.args.index % 8 in
    let low : c.args.index < length octets * 8 - unused = omega (arith, c.requires, ap length c.self.view_is, view_long octets unused) in
    let within : c.args.index / 8 < length octets = omega (arith, low) in
    let at = c.index.ensures ∙ get_or_from_slice_get octets (c.args.index / 8) (get_or octets (c.args.index / 8) 0) c.index.result.now (slice_get-get_or octets (c.args.index / 8) 0 within) in
    c.bit_at.ensures (omega arith) ∙
    ap (λ o. get_or (bits_of_octet o) place false) at ∙
    sym (get_or_from_slice_get (bits_but unused octets) c.args.index _ false (bit_is octets unused c.args.index low)) ∙
    ap (λ l. get_or l c.args.index false) c.self.view_is
