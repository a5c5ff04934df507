use Rattle.std.proofs.Common.{arith}
use Rattle.asn1_certificate_rules.proofs.SetOrders.{out_of_order-within}
use Rattle.asn1_certificate_rules.proofs.rules.broken_by_constructed.Goals as goal

pub overflow_add-result : goal.overflow_add-result
overflow_add-result c = omega (arith, out_of_order-within c.args.element.contents.now c.in_ok-index.index c.in_ok-index.ensures)
