use Rattle.asn1_x509.specs.contracts.certificate.CertificateAsnType.TheImpl.{ghosts as type}
use Rattle.asn1_x509.proofs.laws.equal_certificates_have_the_same_records.Goals as goal

pub returns : goal.returns
returns c =
    c.certificate_has_one_spelling.ensures.alike type.meaning.tag type.meaning.constraints type.meaning.name c.certificate_is_well_tagged.ensures.1
