use Rattle.asn1_ber_items.proofs.LooseOctets.{truth_of}
use Rattle.asn1_ber_items.proofs.loose.read_truth_value.Goals as goal

pub returns-in-len1-clause-only : goal.returns-in-len1-clause-only
returns-in-len1-clause-only c = truth_of c.args.octets.now c.in-len1.len_at_least c.in-len1.len_below
