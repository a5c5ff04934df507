use Rattle.std.specs.Prelude.{[]}
use Rattle.std.proofs.Common.{subst}
use Rattle.asn1_components.specs.Components.{AreDistinctIn, all_components}
use Rattle.asn1_components.proofs.DistinctFollowers.{sequence_apart, set_apart, group_ends, nothing_follows}
use Rattle.asn1_components.proofs.following.components_are_identified_by_tags.Goals as goal

pub returns-clause-sequence : goal.returns-clause-sequence
returns-clause-sequence g c = λ kind can.
    let cs = all_components g.T.FieldTable.components in
    sequence_apart cs (can.0, subst (λ k. AreDistinctIn k cs) kind can.2) c.args._value.now [] (nothing_follows cs)

pub returns-clause-group : goal.returns-clause-group
returns-clause-group g c = λ rest can apart.
    let cs = all_components g.T.FieldTable.components in
    sequence_apart cs can c.args._value.now rest (group_ends cs rest apart)

pub returns-clause-past_the_end : goal.returns-clause-past_the_end
returns-clause-past_the_end g c = λ rest can ends. sequence_apart (all_components g.T.FieldTable.components) can c.args._value.now rest ends

pub returns-clause-set : goal.returns-clause-set
returns-clause-set g c = λ kind can.
    let cs = all_components g.T.FieldTable.components in
    set_apart cs (subst (λ k. AreDistinctIn k cs) kind can.2).0
