use Rattle.std.proofs.Common.{◌∙◌, arith}
use Rattle.asn1_items.proofs.Octets.{pad_six, pad_seven}
use Rattle.asn1_items.proofs.bits.last_octet.Goals as goal

pub returns-in-len6-clause-octet : goal.returns-in-len6-clause-octet
returns-in-len6-clause-octet c = λ short. c.octet_of-in-len6.ensures ∙ pad_six c.args.bits.now (omega arith)

pub returns-in-len7-up-clause-octet : goal.returns-in-len7-up-clause-octet
returns-in-len7-up-clause-octet c = λ short. c.octet_of-in-len7-up.ensures ∙ pad_seven c.args.bits.now (omega (arith, short, c.in-len7-up.len_at_least))
