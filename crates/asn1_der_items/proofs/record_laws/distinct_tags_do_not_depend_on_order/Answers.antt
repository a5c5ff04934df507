use Rattle.asn1_der_items.proofs.DistinctSets.{same_distinct}
use Rattle.asn1_der_items.proofs.record_laws.distinct_tags_do_not_depend_on_order.Goals as goal

pub returns : goal.returns
returns c = λ r s same distinct. same_distinct same distinct
