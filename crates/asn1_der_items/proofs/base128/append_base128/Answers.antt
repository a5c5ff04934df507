use Rattle.std.proofs.Common.{refl, arith}
use Rattle.asn1_der_items.proofs.Septets.{then_last}
use Rattle.asn1_der_items.proofs.base128.append_base128.Goals as goal

pub returns : goal.returns
returns c = then_last c.args.number _ _ _ _ _ refl refl (c.in_ok-append_leading.ensures (omega arith)) c.in_ok-push-2.ensures.items
