-- The text of the report of a certificate.
use Rattle.std.specs.Prelude.{ℕ, List, ◌++◌, codes}
use Rattle.std.specs.List.{flat_map}
use Rattle.asn1_certificate_text.specs.declared.extension.ShownExtension.{ShownExtension}
use Rattle.asn1_certificate_text.specs.declared.report.Report.{Report}
use Rattle.asn1_certificate_text.specs.Extensions.{extension_text}
use Rattle.asn1_certificate_text.specs.Keys.{key_text, signature_text}
use Rattle.asn1_certificate_text.specs.Lines.{labelled}
use Rattle.asn1_certificate_text.specs.Names.{name_text}
use Rattle.asn1_certificate_text.specs.Numbers.{octet_number_text, version_text}
use Rattle.asn1_certificate_text.specs.Times.{time_text}

-- the lines from the version to the issuer
abbrev pub head_text : Report → List ℕ
head_text r =
    labelled (codes "version:       ") (version_text r.version) ++
    (labelled (codes "serial number: ") (octet_number_text r.serial_number) ++
    (labelled (codes "subject:       ") (name_text r.subject) ++
    labelled (codes "issuer:        ") (name_text r.issuer)))

-- the lines of the times
abbrev pub times_text : Report → List ℕ
times_text r =
    labelled (codes "valid from:    ") (time_text r.valid_from) ++
    labelled (codes "valid until:   ") (time_text r.valid_until)

-- the lines of the public key and the signature
abbrev pub tail_text : Report → List ℕ
tail_text r =
    labelled (codes "public key:    ") (key_text r.key) ++
    labelled (codes "signature:     ") (signature_text r.signature)

-- the lines of extensions
abbrev pub extensions_text : List ShownExtension → List ℕ
extensions_text extensions = flat_map (λ e. labelled (codes "extension ") (extension_text e)) extensions

-- the lines of a certificate
abbrev pub report_text : Report → List ℕ
report_text r = head_text r ++ (times_text r ++ (tail_text r ++ extensions_text r.extensions.items))
