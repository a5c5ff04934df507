use Rattle.std.proofs.Common.{ap, ◌∙◌}
use Rattle.asn1_certificate_input.proofs.certificate.lines_of.Goals as goal

pub returns : goal.returns
returns c = record {
  report = _;
  of = c.in_ok-report.ensures;
  are = ap (λ v. v.items) c.into_bytes.ensures.value ∙ c.in_ok-report_text.ensures;
}
