use Rattle.asn1_der_items.proofs.RecordElements.{is_element_of_record}
use Rattle.asn1_der_items.proofs.record_laws.a_record_is_one_element.Goals as goal

pub returns : goal.returns
returns c = is_element_of_record
