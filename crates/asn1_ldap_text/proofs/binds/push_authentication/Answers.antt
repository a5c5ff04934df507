use Rattle.asn1_ldap_text.proofs.binds.push_authentication.Goals as goal

pub returns-in-Simple : goal.returns-in-Simple
returns-in-Simple c = rw c.in-Simple.is (rw c.as_slice.ensures.units at c.push_length.ensures)
