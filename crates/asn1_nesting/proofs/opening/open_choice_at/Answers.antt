use Rattle.std.proofs.Common.{Err, sym, ◌∙◌}
use Rattle.asn1_components.specs.Alternatives.{table_of}
use Rattle.asn1_laws.proofs.ReadingChoices.{as_without_tag}
use Rattle.asn1_model.specs.ConstraintSets.{constraint_set}
use Rattle.asn1_nesting.proofs.OpenAndClosed.{is_deeper, leaves_failed, of_answer, of_error, open_with_tag, open_without_tag, opened_tagged, opened_untagged}
use Rattle.asn1_nesting.proofs.opening.open_choice_at.Goals as goal

pub returns-then-is_choice-clause-opened : goal.returns-then-is_choice-clause-opened
returns-then-is_choice-clause-opened g c =
    of_answer c.open_untagged.result (λ index. open_without_tag g.D.Decoder.reader g.T.Choice.alternatives g.T.AsnType.meaning.constraints (constraint_set c.args.constraints.now) c.args.tag c.args.decoder.now c.open_untagged.new.decoder index (sym c.is_choice.ensures.parts ∙ c.if-is_choice.true)) c.open_untagged.ensures.opened

pub returns-then-is_choice-clause-deeper : goal.returns-then-is_choice-clause-deeper
returns-then-is_choice-clause-deeper g c =
    is_deeper g.D.Decoder.reader g.T.Choice.alternatives g.T.AsnType.meaning.constraints (constraint_set c.args.constraints.now) c.args.tag c.args.decoder.now c.open_untagged.new.decoder c.open_untagged.result (returns-then-is_choice-clause-opened g c)

pub returns-then-is_choice-clause-not_read : goal.returns-then-is_choice-clause-not_read
returns-then-is_choice-clause-not_read g c =
    of_error c.open_untagged.result (λ e. as_without_tag g.D.Decoder.reader g.T.PartialEq.eq g.met.T.ChoiceType.agrees c.args.tag (constraint_set c.args.constraints.now) c.args.decoder.now c.open_untagged.new.decoder (Err e) (c.is_choice.ensures.same.0 c.if-is_choice.true)) c.open_untagged.ensures.not_read

pub returns-then-is_choice-clause-after_reading : goal.returns-then-is_choice-clause-after_reading
returns-then-is_choice-clause-after_reading g c =
    leaves_failed g.D.Decoder.reader g.T.AsnType.meaning c.args.tag (constraint_set c.args.constraints.now) c.args.decoder.now c.open_untagged.new.decoder c.open_untagged.result c.open_untagged.ensures.has_failed c.open_untagged.ensures.failed_before

pub returns-else-is_choice-clause-opened : goal.returns-else-is_choice-clause-opened
returns-else-is_choice-clause-opened g c =
    of_answer c.open_after_tag.result (λ index. open_with_tag g.D.Decoder.reader g.T.Choice.alternatives g.T.AsnType.meaning.constraints (constraint_set c.args.constraints.now) c.args.tag c.args.decoder.now c.open_after_tag.new.decoder index (sym c.is_choice.ensures.parts ∙ c.if-is_choice.false)) c.open_after_tag.ensures.opened

pub returns-else-is_choice-clause-deeper : goal.returns-else-is_choice-clause-deeper
returns-else-is_choice-clause-deeper g c =
    is_deeper g.D.Decoder.reader g.T.Choice.alternatives g.T.AsnType.meaning.constraints (constraint_set c.args.constraints.now) c.args.tag c.args.decoder.now c.open_after_tag.new.decoder c.open_after_tag.result (returns-else-is_choice-clause-opened g c)

pub returns-else-is_choice-clause-not_read : goal.returns-else-is_choice-clause-not_read
returns-else-is_choice-clause-not_read g c = c.open_after_tag.ensures.not_read (sym c.is_choice.ensures.parts ∙ c.if-is_choice.false) (constraint_set c.args.constraints.now)

pub returns-else-is_choice-clause-after_reading : goal.returns-else-is_choice-clause-after_reading
returns-else-is_choice-clause-after_reading g c =
    leaves_failed g.D.Decoder.reader g.T.AsnType.meaning c.args.tag (constraint_set c.args.constraints.now) c.args.decoder.now c.open_after_tag.new.decoder c.open_after_tag.result c.open_after_tag.ensures.has_failed c.open_after_tag.ensures.failed_before

pub returns-then-is_choice-clause-only : goal.returns-then-is_choice-clause-only
returns-then-is_choice-clause-only g c =
    opened_untagged g.D.Decoder.reader c.args.decoder.now c.open_untagged.new.decoder (table_of g.T.Choice.alternatives) g.T.AsnType.meaning.constraints c.args.tag (constraint_set c.args.constraints.now) c.open_untagged.result
    (sym c.is_choice.ensures.parts ∙ c.if-is_choice.true) c.open_untagged.ensures.only

pub returns-else-is_choice-clause-only : goal.returns-else-is_choice-clause-only
returns-else-is_choice-clause-only g c =
    opened_tagged g.D.Decoder.reader c.args.decoder.now c.open_after_tag.new.decoder (table_of g.T.Choice.alternatives) g.T.AsnType.meaning.constraints c.args.tag (constraint_set c.args.constraints.now) c.open_after_tag.result
    (sym c.is_choice.ensures.parts ∙ c.if-is_choice.false) c.open_after_tag.ensures.only
