use Rattle.asn1_ldap_text.proofs.Appending.{further}
use Rattle.asn1_ldap_text.proofs.results.push_diagnosis.Goals as goal

pub returns : goal.returns
returns c =
    further _ _ _ _ _ _ (rw c.as_slice.ensures.units at c.in_ok-push_named_unless_empty.ensures)
    (rw c.as_slice-2.ensures.units at c.push_named_unless_empty-2.ensures)
