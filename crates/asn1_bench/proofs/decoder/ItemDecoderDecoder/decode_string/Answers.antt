use Rattle.std.proofs.Common.{refl, sym, ◌∙◌}
use Rattle.std.proofs.lemmas.Result.{err_from_is_err_and}
use Rattle.asn1_model.specs.ConstraintSets.{constraint_set}
use Rattle.asn1_bench.proofs.decoder.ItemDecoderDecoder.decode_string.Goals as goal

pub returns-in_err-string-clause-read : goal.returns-in_err-string-clause-read
returns-in_err-string-clause-read g c = λ list n rest outer of_kind at.
    let p = err_from_is_err_and c.from_residual.result c.from_residual.ensures.1 in
    rw (p.1, p.2) (c.in_err-string.ensures.read g.K.StringType.content (λ x. record { kind = refl; bytes = λ own p. p }) (constraint_set c.args._constraints.now) list n rest outer of_kind at)

pub returns-clause-read : goal.returns-clause-read
returns-clause-read g c = λ list n rest outer of_kind at.
    let m = c.in_ok-string.ensures.read g.K.StringType.content (λ x. record { kind = refl; bytes = λ own p. p }) (constraint_set c.args._constraints.now) list n rest outer of_kind at in
    record { answer = m.answer.0; at = m.at; within_depth_left = m.within_depth_left }

pub returns-clause-only : goal.returns-clause-only
returns-clause-only g c =
    let read = c.in_ok-string.ensures.only in
    (read.value, read.is.1 ∙ sym read.is.0, read.read (g.K.StringType.content read.value) (record { kind = refl; bytes = λ own p. p }) (constraint_set c.args._constraints.now))
