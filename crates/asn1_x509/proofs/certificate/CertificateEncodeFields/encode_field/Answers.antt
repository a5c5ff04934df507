use Rattle.asn1_x509.proofs.certificate.CertificateEncodeFields.encode_field.Goals as goal

pub returns-in-0 : goal.returns-in-0
returns-in-0 g c = rw c.in-0.is c.encode.ensures
