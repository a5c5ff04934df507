use Rattle.std.proofs.Common.{◌∙◌, ap, subst, sym}
use Rattle.std.proofs.lemmas.Result.{err_from_is_err_and}
use Rattle.asn1_values.proofs.TrailingZeros.{ends}
use Rattle.asn1_values.specs.Bits.{EndsInOne, without_trailing_zeros}
use Rattle.asn1_elements.proofs.from_contents.read_named_bits.Goals as goal

pub returns-in_err-bits-clause-read : goal.returns-in_err-bits-clause-read
returns-in_err-bits-clause-read c = λ list are.
    let p = err_from_is_err_and c.from_residual.result c.from_residual.ensures.1 in
    rw (p.1, p.2) (c.in_err-bits.ensures.read list are)

pub returns-clause-read : goal.returns-clause-read
returns-clause-read c = λ list are. c.without_trailing_zeros.ensures ∙ ap without_trailing_zeros (c.in_ok-bits.ensures.read list are)

pub returns-clause-ends : goal.returns-clause-ends
returns-clause-ends c = subst EndsInOne (sym c.without_trailing_zeros.ensures) (ends c.in_ok-bits.bits)
