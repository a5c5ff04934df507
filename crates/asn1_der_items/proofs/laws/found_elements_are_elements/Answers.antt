use Rattle.asn1_der_items.proofs.ElementsRead.{element_read}
use Rattle.asn1_der_items.proofs.laws.found_elements_are_elements.Goals as goal

pub returns : goal.returns
returns c = element_read
