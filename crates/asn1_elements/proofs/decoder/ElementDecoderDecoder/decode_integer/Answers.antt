use Rattle.asn1_elements.specs.Decoder.{element_reader}
use Rattle.asn1_laws.specs.ReadingExactly.{HasReadContent}
use Rattle.asn1_elements.proofs.ReadExactly.{read_as_answered}
use Rattle.std.proofs.Common.{refl, sym, subst, ◌∙◌}
use Rattle.std.proofs.lemmas.Result.{err_from_is_err_and}
use Rattle.asn1_model.specs.ConstraintSets.{constraint_set}
use Rattle.asn1_model.specs.Records.{number}
use Rattle.asn1_elements.proofs.decoder.ElementDecoderDecoder.decode_integer.Goals as goal

pub returns-in_err-number-clause-read : goal.returns-in_err-number-clause-read
returns-in_err-number-clause-read g c = λ z n rest outer fits at.
    let p = err_from_is_err_and c.from_residual.result c.from_residual.ensures.1 in
    rw (p.1, p.2) (c.in_err-number.ensures.read number (λ x. record { kind = refl; octets = λ own p. p }) (constraint_set c.args._constraints.now) z n rest outer tt at)

pub returns-in-Some-clause-read : goal.returns-in-Some-clause-read
returns-in-Some-clause-read g c = λ z n rest outer fits at.
    let m = c.in_ok-number.ensures.read number (λ x. record { kind = refl; octets = λ own p. p }) (constraint_set c.args._constraints.now) z n rest outer tt at in
    record { answer = c.in-Some.ensures.same_number ∙ m.answer; at = m.at; within_depth_left = m.within_depth_left }

pub returns-in-None-clause-read : goal.returns-in-None-clause-read
returns-in-None-clause-read g c = λ z n rest outer fits at.
    let m = c.in_ok-number.ensures.read number (λ x. record { kind = refl; octets = λ own p. p }) (constraint_set c.args._constraints.now) z n rest outer tt at in
    let found = c.in-None.ensures.fitting.1 (subst g.I.IntegerType.fits (sym m.answer) fits) in
    cc

pub returns-in-Some-clause-only : goal.returns-in-Some-clause-only
returns-in-Some-clause-only g c =
    let constraints = constraint_set c.args._constraints.now in
    subst (λ z. HasReadContent (element_reader g.F.ElementForm.form) c.args.self.now c.scalar.new.self c.args.tag constraints (number z)) (sym c.in-Some.ensures.same_number)
    (read_as_answered c.args.tag c.args.self.now c.scalar.new.self number number constraints c.in_ok-number.number (λ x. record { kind = refl; octets = λ own p. p }) c.in_ok-number.ensures.carried)
