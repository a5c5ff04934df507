use Rattle.asn1_der_items.proofs.Complements.{high_negative, led, low_negative}
use Rattle.asn1_der_items.proofs.integers.append_negative.Goals as goal

pub returns-then-is_high : goal.returns-then-is_high
returns-then-is_high c = λ digits shortest is. record { added = _; is = high_negative digits c.args.octets.now shortest is (c.is_high.ensures.high c.if-is_high.true); joined = c.in_ok-extend_from_slice.ensures.items }

pub returns : goal.returns
returns c = λ digits shortest is. led _ _ _ c.args.octets.now 255 c.in_ok-push.ensures.items c.in_ok-extend_from_slice-2.ensures.items (low_negative digits c.args.octets.now is (c.is_high.ensures.low c.if-is_high.false))
