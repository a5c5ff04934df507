use Rattle.asn1_certificate_text.proofs.Appending.{further}
use Rattle.asn1_certificate_text.proofs.report.push_tail.Goals as goal

pub returns : goal.returns
returns c = further _ _ _ _ _ _ c.in_ok-push_line.ensures c.push_line-2.ensures
