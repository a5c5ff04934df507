use Rattle.std.proofs.lemmas.Result.{err_from_is_err_and}
use Rattle.asn1_value_text.proofs.TextEncoders.{not_written}
use Rattle.asn1_value_text.proofs.write_text.Goals as goal

pub returns-in_err-encode : goal.returns-in_err-encode
returns-in_err-encode g c =
    let p = err_from_is_err_and c.from_residual.result c.from_residual.ensures.1 in
    let e = c.new-encoder.ensures in
    rw (p.1, p.2) (not_written g.F.TextForm.MayRefuse c.new-encoder.result _ _ c.args.depth _ e.nothing_written e.depth_left e.no_failure c.in_err-encode.ensures)
