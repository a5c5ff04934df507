use Rattle.std.proofs.Common.{refl, arith}
use Rattle.asn1_components.specs.ComponentLists.{trees_of}
use Rattle.asn1_components.specs.Components.{all_components, rows}
use Rattle.asn1_model.specs.Records.{group_start, group_absent}
use Rattle.asn1_model.specs.Tags.{tree_tags}
use Rattle.asn1_tags.specs.Trees.{choice}
use Rattle.asn1_bench.proofs.marks.PresenceMarksPresence.group.Goals as goal

pub returns-clause-found : goal.returns-clause-found
returns-clause-found g c =
    c.tell.ensures.found (group_start (rows g.C.FieldTable.components)) (group_absent (rows g.C.FieldTable.components)) (tree_tags (choice (trees_of (all_components g.C.FieldTable.components)))) refl refl (λ e. absurd (omega (arith, e)))
