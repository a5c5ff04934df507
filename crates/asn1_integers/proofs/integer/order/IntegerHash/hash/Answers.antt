use Rattle.std.proofs.Common.{◌≡◌, ◌∙◌, ap, sym}
use Rattle.std.specs.Prelude.{unsigned_abs}
use Rattle.std.specs.Int.{w128}
use Rattle.std.proofs.lemmas.Int.{to_z-of_z}
use Rattle.asn1_integers.specs.Numbers.{magnitude}
use Rattle.asn1_integers.proofs.Digits.{digits_of-magnitude}
use Rattle.asn1_integers.proofs.Signs.{is_negative-is, unsigned_abs-signed}
use Rattle.asn1_integers.proofs.integer.order.IntegerHash.hash.Goals as goal

pub returns-in-Narrow : goal.returns-in-Narrow
returns-in-Narrow g c =
    let z = c.args.self.now in
    let bytes = c.without_leading_zeros.result.now in
    let number = rw c.in-Narrow.is at c.self.view_is in
    let fits = rw c.in-Narrow.is at c.self.invariant in
    let narrow = sym number ∙ sym (to_z-of_z w128 c.in-Narrow.number fits) in
    let absolute : unsigned_abs z ≡ magnitude bytes = ap unsigned_abs narrow ∙ sym c.unsigned_abs.ensures.value ∙ sym c.from_u128-bytes.ensures ∙ sym c.without_leading_zeros.ensures.number in
    rw (digits_of-magnitude bytes (unsigned_abs z) c.without_leading_zeros.ensures.normal absolute, is_negative-is c.is_negative.result z c.is_negative.ensures, ← c.hash.ensures) c.hash-in-Narrow.ensures

pub returns-in-Wide : goal.returns-in-Wide
returns-in-Wide g c =
    let z = c.args.self.now in
    let bytes = c.in-Wide.bytes.items in
    let number = rw c.in-Wide.is at c.self.view_is in
    let form = rw c.in-Wide.is at c.self.invariant in
    let absolute : unsigned_abs z ≡ magnitude bytes = ap unsigned_abs (sym number) ∙ unsigned_abs-signed c.in-Wide.negative (magnitude bytes) in
    rw (digits_of-magnitude bytes (unsigned_abs z) form.normal absolute, is_negative-is c.is_negative.result z c.is_negative.ensures, ← c.hash.ensures) c.hash-in-Wide.ensures
