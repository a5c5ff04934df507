use Rattle.asn1_contents.proofs.RealParts.{reals}
use Rattle.asn1_contents.proofs.laws.octets_of_reals_are_their_parts.Goals as goal

pub returns : goal.returns
returns c = reals
