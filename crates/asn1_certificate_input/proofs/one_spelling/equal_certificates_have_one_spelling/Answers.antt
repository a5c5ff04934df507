use Rattle.asn1_x509.specs.contracts.certificate.CertificateAsnType.TheImpl.{ghosts as type}
use Rattle.asn1_certificate_input.proofs.one_spelling.equal_certificates_have_one_spelling.Goals as goal

pub returns-clause-equal : goal.returns-clause-equal
returns-clause-equal c = λ one other.
    c.equal_values_have_one_spelling.ensures.equal c.equal_certificates_have_the_same_records.ensures one other
    (c.certificate_has_one_spelling.ensures.distinct type.meaning.tag type.meaning.constraints type.meaning.name c.certificate_is_well_tagged.ensures.1 one)

pub returns-clause-only : goal.returns-clause-only
returns-clause-only c =
    c.well_tagged_types_have_one_spelling.ensures
    c.certificate_has_one_spelling.ensures.alike c.certificate_has_one_spelling.ensures.distinct c.certificate_is_well_tagged.ensures
