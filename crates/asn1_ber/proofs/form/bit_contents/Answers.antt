use Rattle.asn1_ber.proofs.Contents.{bits_only}
use Rattle.std.proofs.lemmas.Result.{err_from_is_err_and}
use Rattle.asn1_elements.specs.declared.contents.Contents.TheVariants.{Made}
use Rattle.asn1_ber.proofs.form.bit_contents.Goals as goal

pub returns-in_err-strict-clause-found : goal.returns-in_err-strict-clause-found
returns-in_err-strict-clause-found c = λ list loose.
    let p = err_from_is_err_and c.from_residual.result c.from_residual.ensures.1 in
    rw (p.1, p.2) (c.in_err-strict.ensures.found list loose)

pub returns-clause-only : goal.returns-clause-only
returns-clause-only c = bits_only c.args.octets.now (Made c.in_ok-strict.strict) c.in_ok-strict.ensures.only
