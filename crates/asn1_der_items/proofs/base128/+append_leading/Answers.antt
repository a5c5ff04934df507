use Rattle.std.proofs.Common.{refl, arith}
use Rattle.asn1_der_items.proofs.Septets.{one_leading, then_leading}
use Rattle.asn1_der_items.proofs.base128.+append_leading.Goals as goal

pub returns-then-number-lt128 : goal.returns-then-number-lt128
returns-then-number-lt128 t c = λ some. record { added = _; is = one_leading c.args.number some c.if-number-lt128.true; joined = c.in_ok-push.ensures.items }

pub returns : goal.returns
returns t c = λ some. then_leading c.args.number _ _ _ _ _ c.if-number-lt128.false refl refl (c.in_ok-append_leading.ensures (omega arith)) c.in_ok-push-2.ensures.items
