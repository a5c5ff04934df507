use Rattle.asn1_ldap_text.proofs.Appending.{further}
use Rattle.asn1_ldap_text.proofs.changes.push_compare_request.Goals as goal

pub returns : goal.returns
returns c = further _ _ _ _ _ _ (rw c.as_slice.ensures.units at c.in_ok-push_named.ensures) c.push_compared.ensures
