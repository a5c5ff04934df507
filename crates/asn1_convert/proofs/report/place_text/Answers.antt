use Rattle.std.proofs.Common.{◌≡◌, ◌∙◌, Some, ap, arith, sym}
use Rattle.asn1_convert.proofs.Lines.{last_octet_is}
use Rattle.asn1_convert.specs.Lines.{last_octet}
use Rattle.asn1_convert.proofs.report.place_text.Goals as goal

pub returns-in-Some : goal.returns-in-Some
returns-in-Some c =
    let last : last_octet c.args.start c.args.length ≡ Some c.saturating_add-last.result =
    ap (last_octet c.args.start) c.in-Some.is ∙ (last_octet_is c.args.start c.in-Some.length c.if-length-gt0.true ∙ ap Some (sym c.saturating_add-last.ensures)) in
    rw last c.format.ensures.ok
