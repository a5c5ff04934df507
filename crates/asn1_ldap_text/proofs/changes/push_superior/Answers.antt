use Rattle.asn1_ldap_text.proofs.changes.push_superior.Goals as goal

pub returns-in-Some : goal.returns-in-Some
returns-in-Some c = rw c.in-Some.is (rw c.as_slice.ensures.units at c.push_named.ensures)
