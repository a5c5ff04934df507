use Rattle.std.proofs.Common.{◌≡◌, ◌∙◌, ap, sym, arith}
use Rattle.asn1_values.specs.Numbers.{magnitude, signed}
use Rattle.asn1_values.proofs.Digits.{magnitude-bytes_high_first}
use Rattle.asn1_values.proofs.Signs.{signed-unsigned_abs}
use Rattle.asn1_items.proofs.scalars.push_wide.Goals as goal

pub returns-clause-appended : goal.returns-clause-appended
returns-clause-appended c = λ z absolute sign.
    let digits : magnitude c.significant.result.now ≡ c.args.absolute = c.significant.ensures.number ∙ ap magnitude c.to_be_bytes-digits.ensures ∙ magnitude-bytes_high_first 16 c.args.absolute (omega arith) in
    c.push_signed.ensures.appended z (ap (signed c.args.negative) (digits ∙ sym absolute) ∙ signed-unsigned_abs c.args.negative z sign) c.significant.ensures.shortest.shortest sign
