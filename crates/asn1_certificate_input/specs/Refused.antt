-- The reasons for which an input, or a certificate of it, is refused.
use Rattle.std.specs.Prelude.{◌≡◌, ◌≢◌, ◌⊎◌, ⊤, ℕ, List, Some, true}
use Rattle.asn1_certificate_input.specs.Certificates.{AreOfNoCertificate, IsFollowed, IsReadOf}
use Rattle.asn1_certificate_input.specs.Departures.{AnswersDeparture, DifferFromDer}
use Rattle.asn1_certificate_input.specs.Inputs.{BeginsNoSequence}
use Rattle.asn1_certificate_input.specs.Positions.{issuer, position_of_key_parameters, position_of_parameters_beside, position_of_signed_parameters, position_of_value, subject}
use Rattle.asn1_certificate_input.specs.declared.error.InputError.{InputError}
use Rattle.asn1_certificate_input.specs.declared.error.InputError.TheVariants.{Neither, Text, TrailingBytes, NotDer, NoElement, BadComponent, NoCertificate, BadIssuer, BadSubject, BadKeyParameters, BadSignatureParameters, Departs as DepartsFromDer, OtherDer, Memory}
use Rattle.asn1_certificate_input.specs.declared.options.Options.{Options}
use Rattle.asn1_certificate_input.specs.declared.options.OutputFormat.TheVariants.{Der}
use Rattle.asn1_certificate_reader.specs.NameFaults.{AnswersName, value_fault}
use Rattle.asn1_certificate_reader.specs.Parameters.{HasBadParameters}
use Rattle.asn1_certificate_rules.specs.Departures.{Departs}
use Rattle.asn1_certificate_rules.specs.Rules.{IsOfReading}
use Rattle.asn1_certificate_rules.specs.declared.notation.Part.TheVariants as part
use Rattle.asn1_certificate_text.specs.PemLines.{HasNoBegin}
use Rattle.asn1_certificate_text.specs.declared.pem.PemCertificate.{PemCertificate}
use Rattle.asn1_certificate_text.specs.declared.pem.PemCertificate.TheVariants.{Octets, Refused}
use Rattle.asn1_der.specs.Format.{der_format}
use Rattle.asn1_der_items.specs.Faults.{AreElementsDownTo, IsFirstFault}
use Rattle.asn1_x509.specs.declared.certificate.Certificate.{Certificate}

-- the octets are those of no valid certificate: trailing bytes follow one, or they break a rule of DER that reading looks at, or the
-- position that the error names is the first at which an element is due and none begins, or they are elements, nested in 64 scopes at
-- most; or memory ran out. The relation puts no condition on the position up to which elements were read.
abbrev pub IsRefusalOfOctets : List ℕ → InputError → Type 0
IsRefusalOfOctets octets (TrailingBytes end) = AreOfNoCertificate octets × IsFollowed octets end
IsRefusalOfOctets octets (NotDer broken) =
    AreOfNoCertificate octets × Departs part.Other octets broken.rule broken.position × IsOfReading broken.rule
IsRefusalOfOctets octets (NoElement position error) = AreOfNoCertificate octets × IsFirstFault 64 octets position
IsRefusalOfOctets octets (BadComponent position name) = AreOfNoCertificate octets × AreElementsDownTo 64 octets
IsRefusalOfOctets octets (NoCertificate position error) = AreOfNoCertificate octets × AreElementsDownTo 64 octets
IsRefusalOfOctets octets Memory = ⊤
IsRefusalOfOctets octets other = ⊥

-- The fault is the first of a name of the certificate that these octets were read as; or the parameters of the algorithm of its key,
-- or of one of its signature, are not what they have to be by their tag; and the position is that to which the path of that value or of
-- these parameters leads in the octets. Or memory ran out.
abbrev pub IsRefusalOfCertificate : List ℕ → Certificate → InputError → Type 0
IsRefusalOfCertificate octets certificate (BadIssuer position fault) =
    AnswersName value_fault certificate.tbs_certificate.issuer (Some fault) × (position ≡ position_of_value octets issuer fault)
IsRefusalOfCertificate octets certificate (BadSubject position fault) =
    AnswersName value_fault certificate.tbs_certificate.subject (Some fault) × (position ≡ position_of_value octets subject fault)
IsRefusalOfCertificate octets certificate (BadKeyParameters position bad) =
    HasBadParameters der_format certificate.tbs_certificate.subject_public_key_info.algorithm bad × (position ≡ position_of_key_parameters octets)
IsRefusalOfCertificate octets certificate (BadSignatureParameters position bad) =
    (HasBadParameters der_format certificate.tbs_certificate.signature bad × (position ≡ position_of_signed_parameters octets)) ⊎
    (HasBadParameters der_format certificate.signature_algorithm bad × (position ≡ position_of_parameters_beside octets))
IsRefusalOfCertificate octets certificate Memory = ⊤
IsRefusalOfCertificate octets certificate other = ⊥

-- The octets of a certificate depart from its DER in this way, and such a certificate is refused; or its DER was asked for, and the
-- octets are not those that writing it makes.
abbrev pub IsRefusalOfDeparture : Options → List ℕ → Certificate → InputError → Type 0
IsRefusalOfDeparture options octets certificate (DepartsFromDer departure) =
    (options.is_strict ≡ true) × AnswersDeparture octets certificate (Some departure)
IsRefusalOfDeparture options octets certificate (OtherDer departure) =
    (options.format ≡ Der) × DifferFromDer octets certificate × AnswersDeparture octets certificate (Some departure)
IsRefusalOfDeparture options octets certificate other = ⊥

-- The certificate that octets were read as is refused.
pub record RefusesCertificate (options : Options) (octets : List ℕ) (error : InputError) : Type 0 where
  pub certificate : Certificate
  pub read : IsReadOf octets certificate
  pub refused : IsRefusalOfCertificate octets certificate error ⊎ IsRefusalOfDeparture options octets certificate error

-- why octets are not shown
abbrev pub IsRefusal : Options → List ℕ → InputError → Type 0
IsRefusal options octets error = IsRefusalOfOctets octets error ⊎ RefusesCertificate options octets error

-- why a certificate of an input is not shown: its octets are refused, or a text has none for it
abbrev pub IsRefusalOf : Options → PemCertificate → InputError → Type 0
IsRefusalOf options (Octets octets) error = IsRefusal options octets.items error
IsRefusalOf options (Refused reason) error = error ≡ Text reason

-- why an input has no certificates: it has no line before a certificate, and no SEQUENCE begins it; or memory ran out
abbrev pub IsRefusalOfInput : List ℕ → InputError → Type 0
IsRefusalOfInput input Neither = HasNoBegin input × BeginsNoSequence input
IsRefusalOfInput input Memory = ⊤
IsRefusalOfInput input other = ⊥
