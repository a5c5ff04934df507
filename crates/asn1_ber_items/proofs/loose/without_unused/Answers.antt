use Rattle.asn1_ber_items.proofs.LooseOctets.{cleared_1, cleared_2, cleared_3}
use Rattle.asn1_ber_items.proofs.loose.without_unused.Goals as goal

pub returns-in-1 : goal.returns-in-1
returns-in-1 c = rw c.in-1.is (cleared_1 c.args.octet)

pub returns-in-2 : goal.returns-in-2
returns-in-2 c = rw c.in-2.is (cleared_2 c.args.octet)

pub returns-in-3 : goal.returns-in-3
returns-in-3 c = rw c.in-3.is (cleared_3 c.args.octet)
