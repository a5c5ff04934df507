use Rattle.asn1_x509_extensions.proofs.general_name.GeneralNameEncodeChoice.encode_alternative.Goals as goal

pub returns-in-EdiPartyName : goal.returns-in-EdiPartyName
returns-in-EdiPartyName g c = rw c.in-EdiPartyName.is c.encode_with_tag-in-EdiPartyName.ensures
