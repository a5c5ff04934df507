use Rattle.asn1_fields.proofs.Rearranged.{at_most_one_is_canonical}
use Rattle.asn1_fields.proofs.canonical_order.at_most_one_rearrangement_is_canonical.Goals as goal

pub returns : goal.returns
returns c = at_most_one_is_canonical
