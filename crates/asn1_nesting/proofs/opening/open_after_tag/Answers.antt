use Rattle.std.proofs.lemmas.Result.{err_from_is_err_and}
use Rattle.asn1_laws.proofs.ReadingChoices.{choice_after_tag_not_read, tag_not_read}
use Rattle.asn1_nesting.proofs.OpenAndClosed.{of_error}
use Rattle.asn1_nesting.proofs.opening.open_after_tag.Goals as goal

pub returns-in_err-open_explicit_prefix-clause-not_read : goal.returns-in_err-open_explicit_prefix-clause-not_read
returns-in_err-open_explicit_prefix-clause-not_read g c = λ under cs.
    let p = err_from_is_err_and c.from_residual.result c.from_residual.ensures.1 in
    rw (p.1, p.2) (tag_not_read g.D.Decoder.reader g.T.PartialEq.eq g.met.T.ChoiceType.agrees c.args.tag cs _ c.args.decoder.now under c.in_err-open_explicit_prefix.ensures.read)

pub returns-clause-not_read : goal.returns-clause-not_read
returns-clause-not_read g c = λ under cs.
    of_error c.open_untagged.result (λ e reads. choice_after_tag_not_read g.D.Decoder.reader g.T.PartialEq.eq g.met.T.ChoiceType.agrees c.args.tag cs c.args.decoder.now _ c.args.decoder.now c.args.decoder.now under
    c.in_ok-open_explicit_prefix.ensures.read c.in_ok-open_explicit_prefix.ensures.takes_depth.one_less (rw c.in-Ok.ensures.set at reads)) c.open_untagged.ensures.not_read
