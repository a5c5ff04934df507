use Rattle.asn1_ldap_text.proofs.operations.push_abandon.Goals as goal

pub returns : goal.returns
returns c = rw c.get-number.ensures.same at c.write.ensures.bytes
