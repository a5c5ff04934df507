use Rattle.std.proofs.Common.{◌++◌}
use Rattle.std.specs.String.{string_bytes}
use Rattle.asn1_certificate_text.specs.Reports.{extensions_text, head_text, tail_text, times_text}
use Rattle.asn1_certificate_text.proofs.Appending.{further}
use Rattle.asn1_certificate_text.proofs.report.ReportAppendText.append_to.Goals as goal

pub returns : goal.returns
returns c =
    let r = c.args.self.now in
    let old = string_bytes c.args.text.now in
    let all = extensions_text r.extensions.items in
    further _ old (head_text r) (times_text r ++ (tail_text r ++ all)) _ _ c.in_ok-push_head.ensures
    (further _ (string_bytes c.push_head.new.text) (times_text r) (tail_text r ++ all) _ _ c.in_ok-push_times.ensures
    (further _ (string_bytes c.push_times.new.text) (tail_text r) all _ _ c.in_ok-push_tail.ensures
    (rw c.as_slice.ensures.value at c.push_extensions.ensures)))
