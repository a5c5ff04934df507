use Rattle.asn1_der_items.proofs.Found.{element-found}
use Rattle.asn1_der_items.proofs.laws.elements_are_found.Goals as goal

pub returns : goal.returns
returns c = element-found
