use Rattle.asn1_ldap_text.proofs.binds.push_version.Goals as goal

pub returns : goal.returns
returns c = rw c.get-version.ensures.same at c.write.ensures.bytes
