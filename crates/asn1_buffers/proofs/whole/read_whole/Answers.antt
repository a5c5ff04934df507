use Rattle.std.proofs.Common.{[], inl, refl}
use Rattle.std.proofs.lemmas.Result.{err_from_is_err_and}
use Rattle.asn1_model.specs.Meaning.{own_records}
use Rattle.asn1_buffers.proofs.WholeValues.{before_nothing, own_or_failed, read_of_all}
use Rattle.asn1_buffers.proofs.whole.read_whole.Goals as goal

pub returns-in_err-value-clause-read : goal.returns-in_err-value-clause-read
returns-in_err-value-clause-read g c = λ v can of_type valid at.
    let m = g.T.AsnType.meaning in
    let p = err_from_is_err_and c.from_residual.result c.from_residual.ensures.1 in
    rw (p.1, p.2) (c.in_err-value.ensures.read v m.name [] [] can.1 of_type valid (inl can.0) (before_nothing g.D.Decoder.reader c.args.decoder (own_records m v) at))

pub returns-in_err-end-clause-read : goal.returns-in_err-end-clause-read
returns-in_err-end-clause-read g c = λ v can of_type valid at.
    let m = g.T.AsnType.meaning in
    let read = c.in_ok-value.ensures.read v m.name [] [] can.1 of_type valid (inl can.0) (before_nothing g.D.Decoder.reader c.args.decoder (own_records m v) at) in
    let wrong = c.in_err-end.ensures.1 read.at in
    cc

pub returns-clause-read : goal.returns-clause-read
returns-clause-read g c = λ v can of_type valid at.
    let m = g.T.AsnType.meaning in
    let read = c.in_ok-value.ensures.read v m.name [] [] can.1 of_type valid (inl can.0) (before_nothing g.D.Decoder.reader c.args.decoder (own_records m v) at) in
    (read.answer, read.within_depth_left)

pub returns-in_err-value-clause-refuses : goal.returns-in_err-value-clause-refuses
returns-in_err-value-clause-refuses g c = λ rs error refused at.
    let p = err_from_is_err_and c.from_residual.result c.from_residual.ensures.1 in
    rw (p.1, p.2) (own_or_failed g.D.Decoder.reader (c.in_err-value.ensures.refuses rs [] [] error refused (before_nothing g.D.Decoder.reader c.args.decoder rs at)))

pub returns-in_err-end-clause-refuses : goal.returns-in_err-end-clause-refuses
returns-in_err-end-clause-refuses g c = λ rs error refused at.
    absurd (c.in_ok-value.ensures.refuses rs [] [] error refused (before_nothing g.D.Decoder.reader c.args.decoder rs at))

pub returns-clause-refuses : goal.returns-clause-refuses
returns-clause-refuses g c = λ rs error refused at.
    absurd (c.in_ok-value.ensures.refuses rs [] [] error refused (before_nothing g.D.Decoder.reader c.args.decoder rs at))

pub returns-clause-none_left : goal.returns-clause-none_left
returns-clause-none_left g c = λ v rest can of_type valid at some.
    let m = g.T.AsnType.meaning in
    let read = c.in_ok-value.ensures.read v m.name rest [] can.1 of_type valid (inl can.0) at in
    absurd (some _ read.at (c.in_ok-end.ensures.0 refl))

pub returns-clause-only : goal.returns-clause-only
returns-clause-only g c = read_of_all g.D.Decoder.reader c.args.decoder _ g.T.AsnType.meaning c.in_ok-value.value c.in_ok-value.ensures.only (c.in_ok-end.ensures.0 refl)
