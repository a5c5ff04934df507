use Rattle.std.proofs.Common.{◌-◌, ◌≤◌, List, drop, length, ◌++◌}
use Rattle.asn1_certificate_text.specs.Pem.{AreCertificatesFrom}
use Rattle.asn1_certificate_text.specs.declared.pem.PemCertificate.{PemCertificate}
use Rattle.asn1_certificate_text.proofs.pem.certificates_in.Given as goal

-- what was found stands before the certificates of the rest
abbrev pub invariant-loop-begin : goal.invariant-loop-begin
invariant-loop-begin l = record {
  within : l.start ≤ length l.text;
  ahead : (others : List PemCertificate) → AreCertificatesFrom l.start (drop l.start l.text) others → AreCertificatesFrom 0 l.text (l.found.items ++ others);
}

abbrev pub decreases-loop-begin : goal.decreases-loop-begin
decreases-loop-begin l = length l.text - l.start
