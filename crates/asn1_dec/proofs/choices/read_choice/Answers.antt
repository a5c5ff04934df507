use Rattle.std.proofs.Common.{sym, ◌∙◌}
use Rattle.asn1_model.specs.ConstraintSets.{constraint_set}
use Rattle.asn1_laws.proofs.ReadingAlternatives.{as_tagged}
use Rattle.asn1_laws.proofs.ReadingWhole.{choice_was_read, tagged_choice_was_read}
use Rattle.asn1_dec.proofs.choices.read_choice.Goals as goal

pub returns-clause-read : goal.returns-clause-read
returns-clause-read g c =
    as_tagged g.D.Decoder.reader g.T.AsnType.meaning g.T.Choice.alternatives g.T.Choice.pick g.T.PartialEq.eq c.args.tag (constraint_set c.args.constraints.now) _ _ _ g.met.T.ChoiceType.agrees
    (sym c.is_choice.ensures.parts ∙ c.if-is_choice.false) c.read_after_tag.ensures.read

pub returns-then-is_choice-clause-only : goal.returns-then-is_choice-clause-only
returns-then-is_choice-clause-only g c =
    choice_was_read g.D.Decoder.reader g.T.AsnType.meaning g.T.Choice.alternatives g.T.Choice.pick c.args.tag (constraint_set c.args.constraints.now) _ _ _ g.met.T.ChoiceType.agrees
    (sym c.is_choice.ensures.parts ∙ c.if-is_choice.true) c.decode_choice.ensures.only

pub returns-clause-only : goal.returns-clause-only
returns-clause-only g c =
    tagged_choice_was_read g.D.Decoder.reader g.T.AsnType.meaning g.T.Choice.alternatives g.T.Choice.pick c.args.tag (constraint_set c.args.constraints.now) _ _ _ g.met.T.ChoiceType.agrees
    (sym c.is_choice.ensures.parts ∙ c.if-is_choice.false) c.read_after_tag.ensures.only
