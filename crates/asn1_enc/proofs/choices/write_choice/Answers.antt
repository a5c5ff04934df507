use Rattle.std.proofs.Common.{sym, ◌∙◌}
use Rattle.asn1_model.specs.ConstraintSets.{constraint_set}
use Rattle.asn1_tags.specs.Names.{name_of}
use Rattle.asn1_laws.proofs.WritingAlternatives.{as_tagged, as_untagged}
use Rattle.asn1_laws.proofs.WritingNames.{named_or}
use Rattle.asn1_enc.proofs.choices.write_choice.Goals as goal

pub returns-then-is_choice-clause-writes : goal.returns-then-is_choice-clause-writes
returns-then-is_choice-clause-writes g c =
    as_untagged g.E.Encoder.writer g.T.AsnType.meaning g.T.Choice.alternatives g.T.Choice.pick c.args.value.now c.args.tag (constraint_set c.args.constraints.now) (name_of c.args.name) (name_of c.or-name.result) _ _ _ g.met.T.ChoiceType.agrees
    (sym c.is_choice.ensures.parts ∙ c.if-is_choice.true)
    (rw c.table-table.ensures.identifier at (named_or (name_of c.args.name) (name_of c.table-table.result.identifier) (name_of c.or-name.result) c.or-name.ensures.named c.or-name.ensures.empty))
    c.encode_choice.ensures.writes

pub returns-clause-writes : goal.returns-clause-writes
returns-clause-writes g c =
    as_tagged g.E.Encoder.writer g.T.AsnType.meaning g.T.Choice.alternatives g.T.Choice.pick c.args.value.now c.args.tag (constraint_set c.args.constraints.now) (name_of c.args.name) (name_of c.or-name.result) _ _ _ g.met.T.ChoiceType.agrees
    (sym c.is_choice.ensures.parts ∙ c.if-is_choice.false)
    (rw c.table-table.ensures.identifier at (named_or (name_of c.args.name) (name_of c.table-table.result.identifier) (name_of c.or-name.result) c.or-name.ensures.named c.or-name.ensures.empty))
    (rw (c.table-table.ensures.constraints, c.table-table.ensures.identifier) at c.write_after_tag.ensures.writes)
