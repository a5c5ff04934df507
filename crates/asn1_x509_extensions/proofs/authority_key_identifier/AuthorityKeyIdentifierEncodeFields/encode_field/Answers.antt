use Rattle.asn1_x509_extensions.proofs.authority_key_identifier.AuthorityKeyIdentifierEncodeFields.encode_field.Goals as goal

pub returns-in-2 : goal.returns-in-2
returns-in-2 g c = rw c.in-2.is c.encode_with_tag-in-2.ensures
