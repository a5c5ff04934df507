-- The open types of a certificate: the parameters of algorithms and the values of attributes (RFC 5280, 4.1.1.2 and 4.1.2.4).
-- A codec accepts an open value if it reads these bytes as one value, which `accepts` tells.
use Rattle.std.specs.Prelude.{ℕ, Bool, IsTrue, List, IfSome, All}
use Rattle.asn1_x509.specs.declared.algorithm_identifier.AlgorithmIdentifier.{AlgorithmIdentifier}
use Rattle.asn1_x509.specs.declared.certificate.Certificate.{Certificate}
use Rattle.asn1_x509.specs.declared.name.Name.{Name}
use Rattle.asn1_x509.specs.declared.name.Name.TheVariants.{RdnSequence}
use Rattle.asn1_x509.specs.declared.tbs_certificate.TbsCertificate.{TbsCertificate}

module _ (accepts : List ℕ → Bool) where
  -- the parameters of an algorithm, where it has any
  abbrev pub ParametersAreAccepted : AlgorithmIdentifier → Type 0
  ParametersAreAccepted algorithm = IfSome algorithm.parameters (λ parameters. IsTrue (accepts parameters))

  -- the value of each attribute of a name
  abbrev pub NameIsAccepted : Name → Type 0
  NameIsAccepted (RdnSequence rdns) = All (λ rdn. All (λ attribute. IsTrue (accepts attribute.value)) rdn) rdns.items

  -- what is open in the part that is signed: in two algorithms and two names
  pub record SignedPartIsAccepted (tbs : TbsCertificate) : Type 0 where
    pub signature : ParametersAreAccepted tbs.signature
    pub issuer : NameIsAccepted tbs.issuer
    pub subject : NameIsAccepted tbs.subject
    pub public_key : ParametersAreAccepted tbs.subject_public_key_info.algorithm

  -- and in the whole, which names the algorithm of its signature once more
  pub record CertificateIsAccepted (certificate : Certificate) : Type 0 where
    pub signed_part : SignedPartIsAccepted certificate.tbs_certificate
    pub signature_algorithm : ParametersAreAccepted certificate.signature_algorithm
