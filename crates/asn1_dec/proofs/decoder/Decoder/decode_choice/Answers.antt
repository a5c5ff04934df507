use Rattle.std.proofs.Common.{[], ◌∷◌}
use Rattle.std.proofs.lemmas.Result.{err_from_is_err_and}
use Rattle.asn1_components.specs.Alternatives.{all_of, chosen_meaning, table_of}
use Rattle.asn1_components.specs.ChosenTags.{chosen_has_own, chosen_tag, selects_chosen}
use Rattle.asn1_model.specs.ConstraintSets.{constraint_set}
use Rattle.asn1_model.specs.Records.{alternative}
use Rattle.asn1_laws.proofs.ReadingChoices.{held_is_one}
use Rattle.asn1_laws.proofs.ReadingSteps.{to_end, fails_inside, flat_failure, not_opened, within_scope}
use Rattle.asn1_laws.proofs.ReadingWhole.{alternative_was_read}
use Rattle.asn1_dec.proofs.decoder.Decoder.decode_choice.Goals as goal

pub returns-in_err-chosen-clause-read : goal.returns-in_err-chosen-clause-read
returns-in_err-chosen-clause-read g c = λ v n rest outer distinct can of_type valid at.
    let p = err_from_is_err_and c.from_residual.result c.from_residual.ensures.1 in
    let rs = (chosen_meaning (all_of g.T.Choice.alternatives) (g.T.Choice.pick v)).records in
    let head = alternative (chosen_tag (all_of g.T.Choice.alternatives) (g.T.Choice.pick v)) (constraint_set c.args.constraints.now) (table_of g.T.Choice.alternatives) n in
    rw (p.1, p.2) (not_opened head rs _ (c.in_err-chosen.ensures.read (chosen_tag (all_of g.T.Choice.alternatives) (g.T.Choice.pick v)) distinct can n rs rest outer (held_is_one (all_of g.T.Choice.alternatives) can (g.T.Choice.pick v)) at))

pub returns-in-Err-clause-read : goal.returns-in-Err-clause-read
returns-in-Err-clause-read g c = λ v n rest outer distinct can of_type valid at.
    let rs = (chosen_meaning (all_of g.T.Choice.alternatives) (g.T.Choice.pick v)).records in
    let s = c.in_ok-chosen.ensures.read (chosen_tag (all_of g.T.Choice.alternatives) (g.T.Choice.pick v)) distinct can n rs rest outer (held_is_one (all_of g.T.Choice.alternatives) can (g.T.Choice.pick v)) at in
    let r = c.in-Err.ensures.read v [] ((_, rest) ∷ outer) distinct can of_type valid (selects_chosen (all_of g.T.Choice.alternatives) (g.T.Choice.pick v) (chosen_tag (all_of g.T.Choice.alternatives) (g.T.Choice.pick v)) _ s.answer (chosen_has_own (all_of g.T.Choice.alternatives) can (g.T.Choice.pick v))) (to_end g.Self.Decoder.reader _ rs ((_, rest) ∷ outer) s.at) in
    rw c.refuse.ensures.same (fails_inside (alternative (chosen_tag (all_of g.T.Choice.alternatives) (g.T.Choice.pick v)) (constraint_set c.args.constraints.now) (table_of g.T.Choice.alternatives) n) rs _ _ c.in_ok-chosen.ensures.takes_depth.one_less r)

pub returns-in_err-close-clause-read : goal.returns-in_err-close-clause-read
returns-in_err-close-clause-read g c = λ v n rest outer distinct can of_type valid at.
    let p = err_from_is_err_and c.from_residual-in_err-close.result c.from_residual-in_err-close.ensures.1 in
    let rs = (chosen_meaning (all_of g.T.Choice.alternatives) (g.T.Choice.pick v)).records in
    let s = c.in_ok-chosen.ensures.read (chosen_tag (all_of g.T.Choice.alternatives) (g.T.Choice.pick v)) distinct can n rs rest outer (held_is_one (all_of g.T.Choice.alternatives) can (g.T.Choice.pick v)) at in
    let r = c.in-Ok.ensures.read v [] ((_, rest) ∷ outer) distinct can of_type valid (selects_chosen (all_of g.T.Choice.alternatives) (g.T.Choice.pick v) (chosen_tag (all_of g.T.Choice.alternatives) (g.T.Choice.pick v)) _ s.answer (chosen_has_own (all_of g.T.Choice.alternatives) can (g.T.Choice.pick v))) (to_end g.Self.Decoder.reader _ rs ((_, rest) ∷ outer) s.at) in
    rw (p.1, p.2) (flat_failure _ _ _ (c.in_err-close.ensures.read _ rest outer r.at))

pub returns-clause-read : goal.returns-clause-read
returns-clause-read g c = λ v n rest outer distinct can of_type valid at.
    let rs = (chosen_meaning (all_of g.T.Choice.alternatives) (g.T.Choice.pick v)).records in
    let s = c.in_ok-chosen.ensures.read (chosen_tag (all_of g.T.Choice.alternatives) (g.T.Choice.pick v)) distinct can n rs rest outer (held_is_one (all_of g.T.Choice.alternatives) can (g.T.Choice.pick v)) at in
    let r = c.in-Ok.ensures.read v [] ((_, rest) ∷ outer) distinct can of_type valid (selects_chosen (all_of g.T.Choice.alternatives) (g.T.Choice.pick v) (chosen_tag (all_of g.T.Choice.alternatives) (g.T.Choice.pick v)) _ s.answer (chosen_has_own (all_of g.T.Choice.alternatives) can (g.T.Choice.pick v))) (to_end g.Self.Decoder.reader _ rs ((_, rest) ∷ outer) s.at) in
    let k = c.in_ok-close.ensures.read _ rest outer r.at in
    record { answer = r.answer; at = k.at; within_depth_left = within_scope (alternative (chosen_tag (all_of g.T.Choice.alternatives) (g.T.Choice.pick v)) (constraint_set c.args.constraints.now) (table_of g.T.Choice.alternatives) n) rs _ _ c.in_ok-chosen.ensures.takes_depth.one_less r.within_depth_left }

pub returns-clause-only : goal.returns-clause-only
returns-clause-only g c =
    alternative_was_read g.Self.Decoder.reader (λ w. (chosen_meaning (all_of g.T.Choice.alternatives) (g.T.Choice.pick w)).AreReadAs) _ c.args.self.now _ _ _
    c.in-Ok.ensures.only c.in_ok-close.ensures.only (constraint_set c.args.constraints.now) (table_of g.T.Choice.alternatives) c.in_ok-chosen.ensures.only
