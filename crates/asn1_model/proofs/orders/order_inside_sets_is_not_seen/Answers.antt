use Rattle.asn1_model.proofs.SameRecords.{same-height}
use Rattle.asn1_model.proofs.orders.order_inside_sets_is_not_seen.Goals as goal

-- src/orders.rt
pub returns-clause-heights : goal.returns-clause-heights
returns-clause-heights c = λ r s same. same-height same
