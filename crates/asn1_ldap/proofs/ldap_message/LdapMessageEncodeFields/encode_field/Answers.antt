use Rattle.asn1_ldap.proofs.ldap_message.LdapMessageEncodeFields.encode_field.Goals as goal

pub returns-in-1 : goal.returns-in-1
returns-in-1 g c = rw c.in-1.is c.encode-in-1.ensures
