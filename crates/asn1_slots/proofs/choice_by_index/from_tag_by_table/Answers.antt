use Rattle.std.proofs.Common.{subst}
use Rattle.asn1_slots.proofs.TreesWithTags.{where_they_are}
use Rattle.asn1_slots.specs.TagIndices.{IsIndexOf}
use Rattle.asn1_slots.proofs.choice_by_index.from_tag_by_table.Goals as goal

pub returns-in-Ok-clause-read : goal.returns-in-Ok-clause-read
returns-in-Ok-clause-read g c = where_they_are _ g.T.Choice.alternatives g.T.DecodeChoiceByIndex.cases (λ same.
    c.read_at.ensures.read c.args.tag (subst (λ trees. IsIndexOf c.args.tag trees c.in-Ok.index) same c.in-Ok.ensures))
