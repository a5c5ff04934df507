use Rattle.asn1_user_types.proofs.ValidValues.{goods_valid}
use Rattle.asn1_user_types.proofs.validity.order_is_valid.Goals as goal

pub returns : goal.returns
returns c = λ accepts. ((tt, (tt, tt)), (goods_valid c.args.order.now.goods, tt))
