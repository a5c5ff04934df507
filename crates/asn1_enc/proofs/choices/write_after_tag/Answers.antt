use Rattle.asn1_components.specs.Alternatives.{all_of, chosen_meaning}
use Rattle.asn1_laws.proofs.WritingSteps.{exits, inside_fails, open_fails, refused, writes_scope}
use Rattle.asn1_laws.specs.TaggedChoices.{chosen_records}
use Rattle.asn1_model.specs.ConstraintSets.{table_constraints}
use Rattle.asn1_tags.specs.Names.{name_of}
use Rattle.asn1_enc.proofs.choices.write_after_tag.Goals as goal

pub returns-in_err-open_explicit_prefix-clause-writes : goal.returns-in_err-open_explicit_prefix-clause-writes
returns-in_err-open_explicit_prefix-clause-writes g c =
    let x = g.T.Choice.pick c.args.value.now in
    exits g.E.Encoder.writer _ _ _ (chosen_meaning (all_of g.T.Choice.alternatives) x).IsOfType _ c.from_residual.ensures.1
    (open_fails g.E.Encoder.writer (chosen_records (table_constraints c.args.table.now.constraints) (name_of c.args.table.now.identifier) g.T.Choice.alternatives x) c.in_err-open_explicit_prefix.ensures)

pub returns-in_err-constraints-clause-writes : goal.returns-in_err-constraints-clause-writes
returns-in_err-constraints-clause-writes g c =
    let x = g.T.Choice.pick c.args.value.now in
    exits g.E.Encoder.writer _ _ _ (chosen_meaning (all_of g.T.Choice.alternatives) x).IsOfType _ c.from_residual-in_err-constraints.ensures.1
    (inside_fails g.E.Encoder.writer g.met.E.Encoder.lawful c.in_ok-open_explicit_prefix.ensures
    (refused g.E.Encoder.writer (chosen_records (table_constraints c.args.table.now.constraints) (name_of c.args.table.now.identifier) g.T.Choice.alternatives x) c.in_err-constraints.ensures.refused))

pub returns-in_err-encode_choice-clause-writes : goal.returns-in_err-encode_choice-clause-writes
returns-in_err-encode_choice-clause-writes g c =
    exits g.E.Encoder.writer _ _ _ _ _ c.from_residual-in_err-encode_choice.ensures.1
    (inside_fails g.E.Encoder.writer g.met.E.Encoder.lawful c.in_ok-open_explicit_prefix.ensures
    (rw (c.in_ok-constraints.ensures.made, c.in_ok-constraints.ensures.same) at c.in_err-encode_choice.ensures.writes))

pub returns-clause-writes : goal.returns-clause-writes
returns-clause-writes g c =
    writes_scope g.E.Encoder.writer _ _ c.in_ok-open_explicit_prefix.ensures
    (rw (c.in_ok-constraints.ensures.made, c.in_ok-constraints.ensures.same) at c.in_ok-encode_choice.ensures.writes) c.close.ensures
