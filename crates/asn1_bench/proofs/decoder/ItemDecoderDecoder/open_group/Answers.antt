use Rattle.std.proofs.Common.{Ok, Err}
use Rattle.asn1_laws.proofs.ReadingUpToOrder.{tells_presence}
use Rattle.asn1_components.specs.ComponentLists.{trees_of}
use Rattle.asn1_components.specs.Components.{all_components, rows}
use Rattle.asn1_model.specs.Records.{group_start, group_absent}
use Rattle.asn1_model.specs.Tags.{tree_tags}
use Rattle.asn1_bench.proofs.RemainingItems.{found, not_found}
use Rattle.asn1_bench.specs.Decoder.{in_one_order}
use Rattle.asn1_tags.specs.Trees.{choice}
use Rattle.asn1_bench.proofs.ReadItems.{either_taken}
use Rattle.asn1_bench.proofs.decoder.ItemDecoderDecoder.open_group.Goals as goal

pub returns-in-Ok-clause-read : goal.returns-in-Ok-clause-read
returns-in-Ok-clause-read g c =
    let marks = g.P.Presence.mark_bytes in
    let there = group_start (rows g.C.FieldTable.components) in
    let away = group_absent (rows g.C.FieldTable.components) in
    let own = tree_tags (choice (trees_of (all_components g.C.FieldTable.components))) in
    tells_presence (in_one_order marks) c.args.self.now _ there away own (Ok c.in-Ok.is_there)
    (found marks c.args.self.now _ there away own c.in-Ok.is_there c.if-state.false c.in-Ok.ensures.keeps_outside c.in-Ok.ensures.found)

pub returns-in-Err-clause-read : goal.returns-in-Err-clause-read
returns-in-Err-clause-read g c =
    let marks = g.P.Presence.mark_bytes in
    let there = group_start (rows g.C.FieldTable.components) in
    let away = group_absent (rows g.C.FieldTable.components) in
    let own = tree_tags (choice (trees_of (all_components g.C.FieldTable.components))) in
    tells_presence (in_one_order marks) c.args.self.now _ there away own (Err c.fail_with.result)
    (not_found marks c.args.self.now _ there away own _ c.in-Err.error c.fail_with.result c.in-Err.ensures.found)

pub returns-in-Ok-clause-only : goal.returns-in-Ok-clause-only
returns-in-Ok-clause-only g c =
    either_taken g.P.Presence.mark_bytes c.args.self.now _ c.if-state.false (group_start (rows g.C.FieldTable.components)) (group_absent (rows g.C.FieldTable.components)) c.in-Ok.is_there c.in-Ok.ensures.keeps_outside c.in-Ok.ensures.only
