use Rattle.std.proofs.Common.{rules}
use Rattle.asn1_der_items.proofs.ElementsRead.{are_octets, element_read}
use Rattle.asn1_der_items.proofs.elements.find_element.Goals as goal

pub returns-clause-element : goal.returns-clause-element
returns-clause-element c = element_read c.args.bytes.now _ (are_octets c.args.bytes.now c.type_inv.bytes) (search rules)
