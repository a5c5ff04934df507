use Rattle.std.proofs.lemmas.Result.{err_from_is_err_and}
use Rattle.std.specs.Prelude.{length}
use Rattle.asn1_slots.specs.Slots.{HoldBefore}
use Rattle.asn1_laws.proofs.ReadingSetScopes.{inside_not_read, is_read, not_closed, not_made}
use Rattle.asn1_laws.proofs.ReadingWhole.{scope_was_read, was_read_as}
use Rattle.asn1_components.specs.ComponentLists.{AreReadInAnyOrder}
use Rattle.asn1_components.specs.Components.{all_components, rows}
use Rattle.asn1_model.specs.Records.{set}
use Rattle.asn1_slots.proofs.Layouts.{slots_of_type}
use Rattle.asn1_slots.specs.SlotsComing.{read_in_any_order}
use Rattle.asn1_slots.proofs.set_by_index.read_components.Goals as goal

pub returns-in_err-slots-clause-read : goal.returns-in_err-slots-clause-read
returns-in_err-slots-clause-read g c =
    let p = err_from_is_err_and c.from_residual-in_err-slots.result c.from_residual-in_err-slots.ensures.1 in
    rw (p.1, p.2) (inside_not_read g.D.Decoder.reader c.args.tag g.S.FieldTable.components g.S.PartialEq.eq _ _ c.args.decoder.now c.args.decoder.now _ c.in_ok-bound.ensures.read c.in_ok-bound.ensures.takes_depth.one_less (c.in_err-slots.ensures.read))

pub returns-in-Err-clause-read : goal.returns-in-Err-clause-read
returns-in-Err-clause-read g c =
    rw c.refuse.ensures.same (not_made g.D.Decoder.reader c.args.tag g.S.FieldTable.components g.S.PartialEq.eq _ _ _ c.args.decoder.now _ c.in_ok-bound.ensures.read
    c.in_ok-slots.slots (λ v s. HoldBefore g.S.DecodeSetByIndex.layout (length g.S.DecodeSetByIndex.layout) s v) (c.in_ok-slots.ensures.read) c.in-Err.ensures.made)

pub returns-in_err-close-clause-read : goal.returns-in_err-close-clause-read
returns-in_err-close-clause-read g c =
    let p = err_from_is_err_and c.from_residual-in_err-close.result c.from_residual-in_err-close.ensures.1 in
    rw (p.1, p.2) (not_closed g.D.Decoder.reader c.args.tag g.S.FieldTable.components g.S.PartialEq.eq _ _ _ c.args.decoder.now _ c.in_ok-bound.ensures.read
    c.in_ok-slots.slots (λ v s. HoldBefore g.S.DecodeSetByIndex.layout (length g.S.DecodeSetByIndex.layout) s v) (c.in_ok-slots.ensures.read) c.in_err-close.ensures.read)

pub returns-clause-read : goal.returns-clause-read
returns-clause-read g c =
    is_read g.D.Decoder.reader c.args.tag g.S.FieldTable.components g.S.PartialEq.eq _ _ _ _ _ c.in_ok-bound.ensures.read
    c.in_ok-slots.slots (λ v s. HoldBefore g.S.DecodeSetByIndex.layout (length g.S.DecodeSetByIndex.layout) s v) (c.in_ok-slots.ensures.read) _ c.in_ok-bound.ensures.takes_depth.one_less c.in-Ok.ensures.made c.in_ok-close.ensures.read

pub returns-clause-only : goal.returns-clause-only
returns-clause-only g c =
    let cs = all_components g.S.FieldTable.components in
    let layout = g.S.DecodeSetByIndex.layout in
    scope_was_read g.D.Decoder.reader (AreReadInAnyOrder cs) _ c.args.decoder.now _ _ _
    (was_read_as g.D.Decoder.reader _ _ _ (AreReadInAnyOrder cs _)
    (λ rs have. read_in_any_order cs layout (slots_of_type g.S.FieldTable.components layout c.requires.laid_out) c.requires.can_be_read _ _ rs c.in-Ok.ensures.only have) c.in_ok-slots.ensures.only)
    c.in_ok-close.ensures.only (set c.args.tag (rows g.S.FieldTable.components)) c.in_ok-bound.ensures.only
