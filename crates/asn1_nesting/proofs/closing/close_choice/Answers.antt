use Rattle.std.proofs.Common.{sym, ◌∙◌}
use Rattle.asn1_components.specs.Alternatives.{table_of}
use Rattle.asn1_laws.proofs.ReadingChoices.{as_without_tag, leaves_kept}
use Rattle.asn1_laws.proofs.ReadingWhole.{choice_was_read, tagged_choice_was_read}
use Rattle.asn1_nesting.proofs.OpenAndClosed.{tagged_opened, untagged_opened}
use Rattle.asn1_nesting.proofs.closing.close_choice.Goals as goal

pub returns-then-is_choice-clause-read : goal.returns-then-is_choice-clause-read
returns-then-is_choice-clause-read g c = λ cs old opened index is_open reads.
    as_without_tag g.D.Decoder.reader g.T.PartialEq.eq g.met.T.ChoiceType.agrees c.args.tag cs old _ _ (c.is_choice.ensures.same.0 c.if-is_choice.true)
    (c.close_untagged.ensures.read cs old opened index (is_open.untagged (sym c.is_choice.ensures.parts ∙ c.if-is_choice.true)) reads)

pub returns-then-is_choice-clause-after_reading : goal.returns-then-is_choice-clause-after_reading
returns-then-is_choice-clause-after_reading g c = λ cs old opened index is_open same.
    leaves_kept g.D.Decoder.reader g.T.AsnType.meaning c.args.tag cs old _ _
    (c.close_untagged.ensures.keeps_depth cs old opened index (is_open.untagged (sym c.is_choice.ensures.parts ∙ c.if-is_choice.true)) same)

pub returns-else-is_choice-clause-read : goal.returns-else-is_choice-clause-read
returns-else-is_choice-clause-read g c = λ cs old opened index is_open reads.
    let under = sym c.is_choice.ensures.parts ∙ c.if-is_choice.false in
    c.close_after_tag.ensures.read c.args.tag cs old opened index under (is_open.tagged under) reads

pub returns-else-is_choice-clause-after_reading : goal.returns-else-is_choice-clause-after_reading
returns-else-is_choice-clause-after_reading g c = λ cs old opened index is_open same.
    let under = sym c.is_choice.ensures.parts ∙ c.if-is_choice.false in
    leaves_kept g.D.Decoder.reader g.T.AsnType.meaning c.args.tag cs old _ _
    (c.close_after_tag.ensures.keeps_depth c.args.tag old opened index (is_open.tagged under) same)

pub returns-then-is_choice-clause-only : goal.returns-then-is_choice-clause-only
returns-then-is_choice-clause-only g c = λ cs old opened index opens reads.
    let is = sym c.is_choice.ensures.parts ∙ c.if-is_choice.true in
    choice_was_read g.D.Decoder.reader g.T.AsnType.meaning g.T.Choice.alternatives g.T.Choice.pick c.args.tag cs old _ c.close_untagged.result g.met.T.ChoiceType.agrees is
    (c.close_untagged.ensures.only cs old opened index (untagged_opened g.D.Decoder.reader old opened (table_of g.T.Choice.alternatives) g.T.AsnType.meaning.constraints c.args.tag cs is opens) reads)

pub returns-else-is_choice-clause-only : goal.returns-else-is_choice-clause-only
returns-else-is_choice-clause-only g c = λ cs old opened index opens reads.
    let under = sym c.is_choice.ensures.parts ∙ c.if-is_choice.false in
    tagged_choice_was_read g.D.Decoder.reader g.T.AsnType.meaning g.T.Choice.alternatives g.T.Choice.pick c.args.tag cs old _ c.close_after_tag.result g.met.T.ChoiceType.agrees under
    (c.close_after_tag.ensures.only c.args.tag old opened index (tagged_opened g.D.Decoder.reader old opened (table_of g.T.Choice.alternatives) g.T.AsnType.meaning.constraints c.args.tag cs under opens) reads)
