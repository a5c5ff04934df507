use Rattle.std.proofs.Common.{[], ◌∷◌}
use Rattle.std.proofs.lemmas.Result.{err_from_is_err_and}
use Rattle.asn1_laws.proofs.ReadingSteps.{to_end, not_opened, fails_inside, flat_failure, within_scope}
use Rattle.asn1_laws.specs.TaggedChoices.{chosen_records}
use Rattle.asn1_model.specs.Records.{explicit_tag}
use Rattle.asn1_laws.proofs.ReadingWhole.{tag_was_read}
use Rattle.asn1_components.specs.Alternatives.{all_of, chosen_meaning, table_of}
use Rattle.asn1_model.specs.Readings.{IsReadAsAlternative}
use Rattle.asn1_dec.proofs.choices.read_after_tag.Goals as goal

pub returns-in_err-open_explicit_prefix-clause-read : goal.returns-in_err-open_explicit_prefix-clause-read
returns-in_err-open_explicit_prefix-clause-read g c = λ v n rest outer distinct can of_type valid at.
    let p = err_from_is_err_and c.from_residual.result c.from_residual.ensures.1 in
    let rs = chosen_records g.T.AsnType.meaning.constraints g.T.AsnType.meaning.name g.T.Choice.alternatives (g.T.Choice.pick v) in
    rw (p.1, p.2) (not_opened (explicit_tag c.args.tag n) rs _ (c.in_err-open_explicit_prefix.ensures.read n rs rest outer at))

pub returns-in_err-value-clause-read : goal.returns-in_err-value-clause-read
returns-in_err-value-clause-read g c = λ v n rest outer distinct can of_type valid at.
    let p = err_from_is_err_and c.from_residual-in_err-value.result c.from_residual-in_err-value.ensures.1 in
    let rs = chosen_records g.T.AsnType.meaning.constraints g.T.AsnType.meaning.name g.T.Choice.alternatives (g.T.Choice.pick v) in
    let s = c.in_ok-open_explicit_prefix.ensures.read n rs rest outer at in
    let r = (rw c.in-Ok.ensures.set at c.in_err-value.ensures.read) v g.T.AsnType.meaning.name [] ((_, rest) ∷ outer) distinct can of_type valid (to_end g.D.Decoder.reader _ rs ((_, rest) ∷ outer) s.at) in
    rw (p.1, p.2) (fails_inside (explicit_tag c.args.tag n) rs _ _ c.in_ok-open_explicit_prefix.ensures.takes_depth.one_less r)

pub returns-in_err-close-clause-read : goal.returns-in_err-close-clause-read
returns-in_err-close-clause-read g c = λ v n rest outer distinct can of_type valid at.
    let p = err_from_is_err_and c.from_residual-in_err-close.result c.from_residual-in_err-close.ensures.1 in
    let rs = chosen_records g.T.AsnType.meaning.constraints g.T.AsnType.meaning.name g.T.Choice.alternatives (g.T.Choice.pick v) in
    let s = c.in_ok-open_explicit_prefix.ensures.read n rs rest outer at in
    let r = (rw c.in-Ok.ensures.set at c.in_ok-value.ensures.read) v g.T.AsnType.meaning.name [] ((_, rest) ∷ outer) distinct can of_type valid (to_end g.D.Decoder.reader _ rs ((_, rest) ∷ outer) s.at) in
    rw (p.1, p.2) (flat_failure _ _ _ (c.in_err-close.ensures.read _ rest outer r.at))

pub returns-clause-read : goal.returns-clause-read
returns-clause-read g c = λ v n rest outer distinct can of_type valid at.
    let rs = chosen_records g.T.AsnType.meaning.constraints g.T.AsnType.meaning.name g.T.Choice.alternatives (g.T.Choice.pick v) in
    let s = c.in_ok-open_explicit_prefix.ensures.read n rs rest outer at in
    let r = (rw c.in-Ok.ensures.set at c.in_ok-value.ensures.read) v g.T.AsnType.meaning.name [] ((_, rest) ∷ outer) distinct can of_type valid (to_end g.D.Decoder.reader _ rs ((_, rest) ∷ outer) s.at) in
    let k = c.in_ok-close.ensures.read _ rest outer r.at in
    record { answer = r.answer; at = k.at; within_depth_left = within_scope (explicit_tag c.args.tag n) rs _ _ c.in_ok-open_explicit_prefix.ensures.takes_depth.one_less r.within_depth_left }

pub returns-clause-only : goal.returns-clause-only
returns-clause-only g c =
    tag_was_read g.D.Decoder.reader
    (IsReadAsAlternative (λ w. (chosen_meaning (all_of g.T.Choice.alternatives) (g.T.Choice.pick w)).AreReadAs) (table_of g.T.Choice.alternatives) g.T.AsnType.meaning.constraints) _
    c.args.decoder.now _ _ _ (rw c.in-Ok.ensures.set at c.in_ok-value.ensures.only) c.in_ok-close.ensures.only c.args.tag c.in_ok-open_explicit_prefix.ensures.only
