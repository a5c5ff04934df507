use Rattle.asn1_fields.proofs.FieldComparison.{field_order, field_same}
use Rattle.asn1_fields.proofs.laws.derives_take_every_part.Goals as goal

pub returns-clause-field_equal : goal.returns-clause-field_equal
returns-clause-field_equal c = field_same

pub returns-clause-field_order : goal.returns-clause-field_order
returns-clause-field_order c = field_order
