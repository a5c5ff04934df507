use Rattle.std.proofs.Common.{◌≡◌, ◌-◌, ◌∷◌, length, length-append, refl, ap, ◌∙◌, arith}
use Rattle.asn1_values.specs.Numbers.{magnitude}
use Rattle.asn1_values.proofs.Digits.{magnitude-bytes_high_first}
use Rattle.asn1_der_items.proofs.Measuring.{long, overwritten, short}
use Rattle.asn1_der_items.proofs.lengths.write_length.Goals as goal

pub returns-then-size-lt128 : goal.returns-then-size-lt128
returns-then-size-lt128 c = λ before contents room is at.
    let size : c.len-2.result - c.args.start ≡ length contents = omega (arith, ap length is, length-append before (room ∷ contents), at, c.len-2.ensures) in
    short before contents _ _ (overwritten before contents c.args.bytes.now.items room _ c.args.start is at) size (omega arith)

pub returns : goal.returns
returns c = λ before contents room is at.
    let size : c.len-2.result - c.args.start ≡ length contents = omega (arith, ap length is, length-append before (room ∷ contents), at, c.len-2.ensures) in
    let digits = c.significant-digits.result.now in
    let value : magnitude digits ≡ length contents = c.significant-digits.ensures.number ∙ ap magnitude c.to_be_bytes-octets.ensures ∙ magnitude-bytes_high_first 8 _ (omega arith) ∙ size in
    long before contents digits c.args.bytes.now.items _ _ room _ c.args.start is at refl c.in_ok-insert_octets.ensures (omega (arith, c.significant-digits.ensures.no_longer, ap length c.to_be_bytes-octets.ensures)) value c.significant-digits.ensures.shortest
    (omega (arith, size)) (omega (arith, size))
