use Rattle.std.proofs.Common.{◌∙◌, inr, sym}
use Rattle.fanughespu.proofs.Reports.{written_otherwise}
use Rattle.fanughespu.proofs.certificate_reports.explained.Goals as goal

pub returns-in-Some-2-clause-refused : goal.returns-in-Some-2-clause-refused
returns-in-Some-2-clause-refused c = λ octets shown.
    inr (written_otherwise octets c.args.shown.bytes.items c.args.shown.warnings shown c.in-Some.departure c.in-Some.is
    (sym c.is_explained.ensures ∙ c.if-is_explained.false))
