use Rattle.std.proofs.Common.{subst}
use Rattle.std.proofs.lemmas.Result.{err_from_is_err_and}
use Rattle.asn1_components.specs.ComponentLists.{trees_of}
use Rattle.asn1_components.specs.Components.{all_components, rows}
use Rattle.asn1_model.specs.Records.{group_start, group_absent}
use Rattle.asn1_model.specs.Tags.{tree_tags}
use Rattle.asn1_tags.specs.Trees.{choice}
use Rattle.asn1_items.specs.NextTags.{IsNext}
use Rattle.asn1_tagform.proofs.PresenceByTag.{not_found, found, none_found}
use Rattle.asn1_tagform.proofs.next_item.NextItemPresence.group.Goals as goal

pub returns-in_err-tag-clause-found : goal.returns-in_err-tag-clause-found
returns-in_err-tag-clause-found g c =
    let components = g.C.FieldTable.components in
    let p = err_from_is_err_and c.from_residual.result c.from_residual.ensures.1 in
    rw (p.1) (not_found c.args.slices.now (group_start (rows components)) (group_absent (rows components)) (tree_tags (choice (trees_of (all_components components)))) _ (λ rs left. c.in_err-tag.ensures rs left))

pub returns-in-Some-clause-found : goal.returns-in-Some-clause-found
returns-in-Some-clause-found g c =
    let components = g.C.FieldTable.components in
    found c.args.slices.now (group_start (rows components)) (group_absent (rows components)) (tree_tags (choice (trees_of (all_components components)))) c.in-Some.tag c.group_can_begin_with.result (λ rs left. subst (IsNext rs) c.in-Some.is (c.in_ok-tag.ensures rs left)) c.group_can_begin_with.ensures

pub returns-in-None-clause-found : goal.returns-in-None-clause-found
returns-in-None-clause-found g c =
    let components = g.C.FieldTable.components in
    none_found c.args.slices.now (group_start (rows components)) (group_absent (rows components)) (tree_tags (choice (trees_of (all_components components)))) (λ rs left. subst (IsNext rs) c.in-None.is (c.in_ok-tag.ensures rs left))
