use Rattle.asn1_strings.proofs.ClearedBits.{but_one, but_two, but_three}
use Rattle.asn1_strings.proofs.strings.bit_vec.cleared.Goals as goal

pub returns-in-1-clause-bits : goal.returns-in-1-clause-bits
returns-in-1-clause-bits c = rw (c.in-1.is) (but_one c.args.octet)

pub returns-in-2-clause-bits : goal.returns-in-2-clause-bits
returns-in-2-clause-bits c = rw (c.in-2.is) (but_two c.args.octet)

pub returns-in-3-clause-bits : goal.returns-in-3-clause-bits
returns-in-3-clause-bits c = rw (c.in-3.is) (but_three c.args.octet)
