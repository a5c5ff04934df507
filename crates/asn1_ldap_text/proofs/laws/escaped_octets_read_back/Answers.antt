use Rattle.asn1_ldap_text.proofs.ReadingBack.{same_octets}
use Rattle.asn1_ldap_text.proofs.laws.escaped_octets_read_back.Goals as goal

pub returns : goal.returns
returns c = λ place a b low few same. same_octets place a b low few same
