use Rattle.std.proofs.Common.{◌∙◌, refl, subst, sym}
use Rattle.std.proofs.lemmas.Result.{err_from_is_err_and}
use Rattle.asn1_model.specs.ConstraintSets.{constraint_set}
use Rattle.asn1_elements.proofs.decoder.ElementDecoderDecoder.decode_string.Goals as goal

pub returns-in_err-string-clause-read : goal.returns-in_err-string-clause-read
returns-in_err-string-clause-read g c = λ list n rest outer of_kind at.
    let p = err_from_is_err_and c.from_residual.result c.from_residual.ensures.1 in
    let may_come = subst g.K.CodecString.AreOfKind (sym (g.met.K.CodecString.reads_own list of_kind)) of_kind in
    rw (p.1, p.2) (c.in_err-string.ensures.read g.K.StringType.content (λ x. record { kind = refl; octets = λ own p. p }) (constraint_set c.args._constraints.now) list n rest outer may_come at)

pub returns-in_err-string-clause-spelled : goal.returns-in_err-string-clause-spelled
returns-in_err-string-clause-spelled g c = λ list n rest outer may_come at.
    let p = err_from_is_err_and c.from_residual.result c.from_residual.ensures.1 in
    rw (p.1, p.2) (c.in_err-string.ensures.read g.K.StringType.content (λ x. record { kind = refl; octets = λ own p. p }) (constraint_set c.args._constraints.now) list n rest outer may_come at)

pub returns-clause-read : goal.returns-clause-read
returns-clause-read g c = λ list n rest outer of_kind at.
    let own = g.met.K.CodecString.reads_own list of_kind in
    let may_come = subst g.K.CodecString.AreOfKind (sym own) of_kind in
    let m = c.in_ok-string.ensures.read g.K.StringType.content (λ x. record { kind = refl; octets = λ own p. p }) (constraint_set c.args._constraints.now) list n rest outer may_come at in
    record { answer = m.answer ∙ own; at = m.at; within_depth_left = m.within_depth_left }

pub returns-clause-spelled : goal.returns-clause-spelled
returns-clause-spelled g c = λ list n rest outer may_come at.
    let m = c.in_ok-string.ensures.read g.K.StringType.content (λ x. record { kind = refl; octets = λ own p. p }) (constraint_set c.args._constraints.now) list n rest outer may_come at in
    record { answer = m.answer; at = m.at; within_depth_left = m.within_depth_left }

pub returns-clause-only : goal.returns-clause-only
returns-clause-only g c =
    let r = c.in_ok-string.ensures.carried in
    (r.spelling, sym r.is_of, r.read (g.K.StringType.content r.spelling) (constraint_set c.args._constraints.now) (record { kind = refl; octets = λ own p. p }))
