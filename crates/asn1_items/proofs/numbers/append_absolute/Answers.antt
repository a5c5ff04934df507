use Rattle.std.proofs.Common.{◌≡◌, ◌∙◌, ap, sym, arith}
use Rattle.asn1_values.specs.Numbers.{magnitude, signed}
use Rattle.asn1_values.proofs.Digits.{magnitude-bytes_high_first}
use Rattle.asn1_values.proofs.Signs.{signed-unsigned_abs}
use Rattle.asn1_items.proofs.numbers.append_absolute.Goals as goal

pub returns-in-Ok : goal.returns-in-Ok
returns-in-Ok c = λ z absolute sign.
    let digits : magnitude c.significant.result.now ≡ c.in-Ok.small = c.significant.ensures.number ∙ ap magnitude c.to_be_bytes-digits.ensures ∙ magnitude-bytes_high_first 4 c.in-Ok.small (omega arith) in
    c.append_signed.ensures.appended z (ap (signed c.args.negative) (digits ∙ c.in-Ok.ensures.1 ∙ sym absolute) ∙ signed-unsigned_abs c.args.negative z sign) c.significant.ensures.shortest.shortest sign

pub returns : goal.returns
returns c = λ z absolute sign.
    let digits : magnitude c.significant-2.result.now ≡ c.args.absolute = c.significant-2.ensures.number ∙ ap magnitude c.to_be_bytes-digits-2.ensures ∙ magnitude-bytes_high_first 16 c.args.absolute (omega arith) in
    c.append_signed-2.ensures.appended z (ap (signed c.args.negative) (digits ∙ sym absolute) ∙ signed-unsigned_abs c.args.negative z sign) c.significant-2.ensures.shortest.shortest sign
