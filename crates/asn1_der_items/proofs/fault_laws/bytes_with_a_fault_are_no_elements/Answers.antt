use Rattle.asn1_der_items.proofs.FaultPositions.{not_elements}
use Rattle.asn1_der_items.proofs.fault_laws.bytes_with_a_fault_are_no_elements.Goals as goal

pub returns : goal.returns
returns c = not_elements
