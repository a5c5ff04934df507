use Rattle.std.proofs.Common.{refl, sym, subst, ◌∙◌}
use Rattle.std.proofs.lemmas.Result.{err_from_is_err_and}
use Rattle.asn1_model.specs.ConstraintSets.{constraint_set}
use Rattle.asn1_model.specs.Records.{number}
use Rattle.asn1_bench.proofs.ReadItems.{as_looks}
use Rattle.asn1_bench.specs.Decoder.{item_reader}
use Rattle.asn1_bench.proofs.decoder.ItemDecoderDecoder.decode_integer.Goals as goal

pub returns-in_err-number-clause-read : goal.returns-in_err-number-clause-read
returns-in_err-number-clause-read g c = λ z n rest outer fits at.
    let p = err_from_is_err_and c.from_residual.result c.from_residual.ensures.1 in
    rw (p.1, p.2) (c.in_err-number.ensures.read number (λ x. record { kind = refl; bytes = λ own p. p }) (constraint_set c.args._constraints.now) z n rest outer tt at)

pub returns-in-Some-clause-read : goal.returns-in-Some-clause-read
returns-in-Some-clause-read g c = λ z n rest outer fits at.
    let m = c.in_ok-number.ensures.read number (λ x. record { kind = refl; bytes = λ own p. p }) (constraint_set c.args._constraints.now) z n rest outer tt at in
    record { answer = c.in-Some.ensures.same_number ∙ m.answer; at = m.at; within_depth_left = m.within_depth_left }

pub returns-in-None-clause-read : goal.returns-in-None-clause-read
returns-in-None-clause-read g c = λ z n rest outer fits at.
    let m = c.in_ok-number.ensures.read number (λ x. record { kind = refl; bytes = λ own p. p }) (constraint_set c.args._constraints.now) z n rest outer tt at in
    let found = c.in-None.ensures.fitting.1 (subst g.I.IntegerType.fits (sym m.answer) fits) in
    cc

pub returns-in-Some-clause-only : goal.returns-in-Some-clause-only
returns-in-Some-clause-only g c =
    as_looks (item_reader g.P.Presence.mark_bytes) c.args.tag number number (λ x. record { kind = refl; bytes = λ own p. p })
    c.args.self.now _ (constraint_set c.args._constraints.now) (g.I.IntegerType.number c.in-Some.value) c.in_ok-number.number c.in-Some.ensures.same_number c.in_ok-number.ensures.only
