use Rattle.std.specs.Prelude.{◌==◌}
use Rattle.std.proofs.Common.{◌≡◌, true, false, length}
use Rattle.asn1_der_items.proofs.Complements.{high_natural, led, low_natural, no_digits, some_digits}
use Rattle.asn1_der_items.proofs.integers.append_natural.Goals as goal

pub returns-then-is_empty : goal.returns-then-is_empty
returns-then-is_empty c = λ shortest.
    let none : (length c.args.digits.now == 0) ≡ true = cc in
    record { added = _; is = no_digits c.args.digits.now none; joined = c.in_ok-push.ensures.items }

pub returns-then-is_high : goal.returns-then-is_high
returns-then-is_high c = λ shortest. led _ _ _ c.args.digits.now 0 c.in_ok-push-2.ensures.items c.in_ok-extend_from_slice.ensures.items (high_natural c.args.digits.now (c.is_high.ensures.high c.if-is_high.true) c.is_high.ensures.octet)

pub returns : goal.returns
returns c = λ shortest.
    let some : (length c.args.digits.now == 0) ≡ false = cc in
    record { added = _; is = low_natural c.args.digits.now (some_digits c.args.digits.now some) (c.is_high.ensures.low c.if-is_high.false) shortest; joined = c.in_ok-extend_from_slice-2.ensures.items }
