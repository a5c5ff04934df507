use Rattle.asn1_elements.proofs.ReadExactly.{answered_mark_taken}
use Rattle.std.proofs.Common.{Ok, false}
use Rattle.std.proofs.lemmas.Result.{err_from_is_err_and}
use Rattle.asn1_laws.proofs.ReadingUpToOrder.{tells_presence}
use Rattle.asn1_components.specs.ComponentLists.{trees_of}
use Rattle.asn1_components.specs.Components.{all_components, rows}
use Rattle.asn1_elements.proofs.PresenceByTag.{not_found, found, none_found}
use Rattle.asn1_elements.specs.Decoder.{in_one_order}
use Rattle.asn1_model.specs.Records.{group_start, group_absent}
use Rattle.asn1_model.specs.Tags.{tree_tags}
use Rattle.asn1_tags.specs.Trees.{choice}
use Rattle.asn1_elements.proofs.decoder.ElementDecoderDecoder.open_group.Goals as goal

pub returns-in_err-tag-clause-read : goal.returns-in_err-tag-clause-read
returns-in_err-tag-clause-read g c =
    let components = g.C.FieldTable.components in
    let there = group_start (rows components) in
    let away = group_absent (rows components) in
    let own = tree_tags (choice (trees_of (all_components components))) in
    let p = err_from_is_err_and c.from_residual.result c.from_residual.ensures.1 in
    tells_presence (in_one_order g.F.ElementForm.form) c.args.self.now c.next_tag.new.self there away own c.from_residual.result
    (not_found g.met.F.ElementForm.lawful c.args.self.now c.next_tag.new.self there away own c.from_residual.result _ p.1 c.in_err-tag.ensures.found)

pub returns-in-Some-clause-read : goal.returns-in-Some-clause-read
returns-in-Some-clause-read g c =
    let components = g.C.FieldTable.components in
    let there = group_start (rows components) in
    let away = group_absent (rows components) in
    let own = tree_tags (choice (trees_of (all_components components))) in
    tells_presence (in_one_order g.F.ElementForm.form) c.args.self.now c.next_tag.new.self there away own (Ok c.group_can_begin_with.result)
    (found g.met.F.ElementForm.lawful c.args.self.now c.next_tag.new.self there away own c.in-Some.tag c.group_can_begin_with.result c.in_ok-tag.field-0 c.in-Some.is
    c.in_ok-tag.ensures.opens_nothing.keeps_depth.no_failure c.in_ok-tag.ensures.same_bytes c.in_ok-tag.ensures.found c.group_can_begin_with.ensures)

pub returns-in-None-clause-read : goal.returns-in-None-clause-read
returns-in-None-clause-read g c =
    let components = g.C.FieldTable.components in
    let there = group_start (rows components) in
    let away = group_absent (rows components) in
    let own = tree_tags (choice (trees_of (all_components components))) in
    tells_presence (in_one_order g.F.ElementForm.form) c.args.self.now c.next_tag.new.self there away own (Ok _)
    (none_found g.met.F.ElementForm.lawful c.args.self.now c.next_tag.new.self there away own c.in_ok-tag.field-0 c.in-None.is
    c.in_ok-tag.ensures.opens_nothing.keeps_depth.no_failure c.in_ok-tag.ensures.same_bytes c.in_ok-tag.ensures.found)

pub returns-in-Some-clause-only : goal.returns-in-Some-clause-only
returns-in-Some-clause-only g c =
    let rs = rows g.C.FieldTable.components in
    answered_mark_taken g.met.F.ElementForm.lawful c.args.self.now c.next_tag.new.self (group_start rs) (group_absent rs) c.group_can_begin_with.result c.in_ok-tag.ensures.no_failure c.in_ok-tag.ensures.same_bytes

pub returns-in-None-clause-only : goal.returns-in-None-clause-only
returns-in-None-clause-only g c =
    let rs = rows g.C.FieldTable.components in
    answered_mark_taken g.met.F.ElementForm.lawful c.args.self.now c.next_tag.new.self (group_start rs) (group_absent rs) false c.in_ok-tag.ensures.no_failure c.in_ok-tag.ensures.same_bytes
