use Rattle.asn1_contents.proofs.ArcsOfOctets.{relative_oids}
use Rattle.asn1_contents.proofs.laws.octets_of_relative_oids_are_arcs.Goals as goal

pub returns : goal.returns
returns c = relative_oids
