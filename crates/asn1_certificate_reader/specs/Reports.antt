-- The report of a certificate.
use Rattle.std.specs.List.{AllZip}
use Rattle.std.specs.Prelude.{◌≡◌, ℕ, List, [], Option, None, Some, Vec}
use Rattle.std.specs.declared.alloc.Global.{Global}
use Rattle.asn1_certificate_text.specs.declared.extension.ShownExtension.{ShownExtension}
use Rattle.asn1_certificate_text.specs.declared.report.Report.{Report}
use Rattle.asn1_certificate_reader.specs.Algorithms.{IsSignatureOf}
use Rattle.asn1_certificate_reader.specs.ExtensionValues.{IsValueOfKind, kind_of}
use Rattle.asn1_certificate_reader.specs.Keys.{IsKeyOf}
use Rattle.asn1_certificate_reader.specs.Names.{IsNameOf}
use Rattle.asn1_certificate_reader.specs.Objects.{IsObjectOf}
use Rattle.asn1_certificate_reader.specs.Scalars.{IsOctetNumberOf, IsTimeOf, IsVersionOf}
use Rattle.asn1_rules.specs.Rules.{Format}
use Rattle.asn1_x509.specs.declared.certificate.Certificate.{Certificate}
use Rattle.asn1_x509.specs.declared.extension.Extension.{Extension}

-- an extension of that kind, critical or not, and of its value (RFC 5280, 4.2)
pub record IsExtensionOf (F : Format (Vec ℕ Global)) (e : Extension) (shown : ShownExtension) : Type 0 where
  pub kind : IsObjectOf e.extn_id shown.kind
  pub critical : shown.is_critical ≡ e.critical
  pub value : IsValueOfKind F (kind_of e.extn_id) e.extn_value shown.value

-- one for each, in their order, and none where there are none
abbrev pub AreExtensionsOf : Format (Vec ℕ Global) → Option (Vec Extension Global) → List ShownExtension → Type 0
AreExtensionsOf F None shown = shown ≡ []
AreExtensionsOf F (Some es) shown = AllZip (IsExtensionOf F) es.items shown

-- This is a report of the certificate (RFC 5280, 4.1), with its names, key and extensions read by a codec of this format.
pub record IsReportOf (F : Format (Vec ℕ Global)) (c : Certificate) (r : Report) : Type 0 where
  pub version : IsVersionOf c.tbs_certificate.version r.version
  pub serial_number : IsOctetNumberOf c.tbs_certificate.serial_number r.serial_number
  pub subject : IsNameOf F c.tbs_certificate.subject r.subject
  pub issuer : IsNameOf F c.tbs_certificate.issuer r.issuer
  pub valid_from : IsTimeOf c.tbs_certificate.validity.not_before r.valid_from
  pub valid_until : IsTimeOf c.tbs_certificate.validity.not_after r.valid_until
  pub key : IsKeyOf F c.tbs_certificate.subject_public_key_info r.key
  pub signature : IsSignatureOf c.signature_algorithm c.tbs_certificate.signature r.signature
  pub extensions : AreExtensionsOf F c.tbs_certificate.extensions r.extensions.items
