-- The records of a TBSCertificate of the first version without unique names and extensions.
use Rattle.std.specs.Prelude.{List, [], ◌∷◌, ◌++◌, Some, codes}
use Rattle.asn1_model.specs.Composites.{sequence_records}
use Rattle.asn1_model.specs.Meaning.{own_records}
use Rattle.asn1_model.specs.Records.{Record}
use Rattle.asn1_types.specs.Words.{absent, context, in_root, number, presence_mark, rows, scalar, unconstrained, universal}
use Rattle.asn1_x509.specs.contracts.algorithm_identifier.AlgorithmIdentifierAsnType.TheImpl.{ghosts as algorithms}
use Rattle.asn1_x509.specs.contracts.name.NameAsnType.TheImpl.{ghosts as names}
use Rattle.asn1_x509.specs.contracts.subject_public_key_info.SubjectPublicKeyInfoAsnType.TheImpl.{ghosts as keys}
use Rattle.asn1_x509.specs.contracts.tbs_certificate.TbsCertificateFieldTable.TheImpl.{ghosts as certificate}
use Rattle.asn1_x509.specs.contracts.validity.ValidityAsnType.TheImpl.{ghosts as validities}
use Rattle.asn1_x509.specs.declared.tbs_certificate.TbsCertificate.{TbsCertificate}

-- TBSCertificate ::= SEQUENCE {
--     version [0] EXPLICIT Version DEFAULT v1,
--     serialNumber CertificateSerialNumber,
--     signature AlgorithmIdentifier,
--     issuer Name,
--     validity Validity,
--     subject Name,
--     subjectPublicKeyInfo SubjectPublicKeyInfo,
--     issuerUniqueID [1] IMPLICIT UniqueIdentifier OPTIONAL,
--     subjectUniqueID [2] IMPLICIT UniqueIdentifier OPTIONAL,
--     extensions [3] EXPLICIT Extensions OPTIONAL
-- }
-- A certificate of the first version: its version, unique names and extensions are absent.
abbrev pub first_version_records : TbsCertificate → List Record
first_version_records c = sequence_records (universal 16) (rows certificate.components) (Some (codes "TBSCertificate")) (
    presence_mark (absent in_root (context 0)) ∷
    scalar (universal 2) unconstrained (Some (codes "INTEGER")) (number c.serial_number) ∷
    own_records algorithms.meaning c.signature ++
    own_records names.meaning c.issuer ++
    own_records validities.meaning c.validity ++
    own_records names.meaning c.subject ++
    own_records keys.meaning c.subject_public_key_info ++
    presence_mark (absent in_root (context 1)) ∷
    presence_mark (absent in_root (context 2)) ∷
    presence_mark (absent in_root (context 3)) ∷ [])
