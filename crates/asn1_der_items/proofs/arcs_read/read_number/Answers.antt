use Rattle.asn1_der_items.proofs.ElementsRead.{are_octets, number_read}
use Rattle.asn1_der_items.proofs.TrailingBytes.{base128_at-shorter}
use Rattle.asn1_der_items.proofs.arcs_read.read_number.Goals as goal

pub returns-in-Ok-clause-shorter : goal.returns-in-Ok-clause-shorter
returns-in-Ok-clause-shorter c = base128_at-shorter c.args.octets.now _ c.in-Ok.ensures.only

pub returns-in-Ok-clause-only : goal.returns-in-Ok-clause-only
returns-in-Ok-clause-only c = number_read c.args.octets.now _ (are_octets c.args.octets.now c.type_inv.octets) c.in-Ok.ensures.only
