use Rattle.std.proofs.lemmas.Result.{err_from_is_err_and}
use Rattle.asn1_components.specs.Components.{all_components, rows}
use Rattle.asn1_laws.specs.SetParts.{ArePartsOf}
use Rattle.asn1_laws.proofs.ReadingSetScopes.{inside_not_read, is_read, not_closed, not_made}
use Rattle.asn1_laws.proofs.ReadingWhole.{read_without_marks, scope_was_read, was_read_as}
use Rattle.asn1_components.specs.ComponentLists.{AreReadInAnyOrder}
use Rattle.asn1_model.specs.Records.{set}
use Rattle.asn1_dec.proofs.sets.read_components.Goals as goal

pub returns-in_err-parts-clause-read : goal.returns-in_err-parts-clause-read
returns-in_err-parts-clause-read g c =
    let p = err_from_is_err_and c.from_residual-in_err-parts.result c.from_residual-in_err-parts.ensures.1 in
    rw (p.1, p.2) (inside_not_read g.D.Decoder.reader c.args.tag g.S.FieldTable.components g.S.PartialEq.eq _ _ c.args.decoder.now c.args.decoder.now _ c.in_ok-bound.ensures.read c.in_ok-bound.ensures.takes_depth.one_less c.in_err-parts.ensures.read)

pub returns-in-Err-clause-read : goal.returns-in-Err-clause-read
returns-in-Err-clause-read g c =
    rw c.refuse.ensures.same (not_made g.D.Decoder.reader c.args.tag g.S.FieldTable.components g.S.PartialEq.eq _ _ _ c.args.decoder.now _ c.in_ok-bound.ensures.read
    c.in_ok-parts.parts (λ v parts. ArePartsOf (all_components g.S.FieldTable.components) v g.S.DecodeSet.index_of (g.S.DecodeSet.is_part_of v) parts.items) c.in_ok-parts.ensures.read c.in-Err.ensures.made)

pub returns-in_err-close-clause-read : goal.returns-in_err-close-clause-read
returns-in_err-close-clause-read g c =
    let p = err_from_is_err_and c.from_residual-in_err-close.result c.from_residual-in_err-close.ensures.1 in
    rw (p.1, p.2) (not_closed g.D.Decoder.reader c.args.tag g.S.FieldTable.components g.S.PartialEq.eq _ _ _ c.args.decoder.now _ c.in_ok-bound.ensures.read
    c.in_ok-parts.parts (λ v parts. ArePartsOf (all_components g.S.FieldTable.components) v g.S.DecodeSet.index_of (g.S.DecodeSet.is_part_of v) parts.items) c.in_ok-parts.ensures.read c.in_err-close.ensures.read)

pub returns-in-Ok-clause-read : goal.returns-in-Ok-clause-read
returns-in-Ok-clause-read g c =
    is_read g.D.Decoder.reader c.args.tag g.S.FieldTable.components g.S.PartialEq.eq _ _ _ _ _ c.in_ok-bound.ensures.read
    c.in_ok-parts.parts (λ v parts. ArePartsOf (all_components g.S.FieldTable.components) v g.S.DecodeSet.index_of (g.S.DecodeSet.is_part_of v) parts.items) c.in_ok-parts.ensures.read _ c.in_ok-bound.ensures.takes_depth.one_less c.in-Ok.ensures.made c.in_ok-close.ensures.read

pub returns-in-Ok-clause-only : goal.returns-in-Ok-clause-only
returns-in-Ok-clause-only g c =
    let cs = all_components g.S.FieldTable.components in
    scope_was_read g.D.Decoder.reader (AreReadInAnyOrder cs) _ c.args.decoder.now _ _ _
    (was_read_as g.D.Decoder.reader _ _ _ (AreReadInAnyOrder cs _)
    (λ rs (in_turn, are, unmarked). read_without_marks cs _ rs in_turn unmarked (c.in-Ok.ensures.only in_turn are)) c.in_ok-parts.ensures.only)
    c.in_ok-close.ensures.only (set c.args.tag (rows g.S.FieldTable.components)) c.in_ok-bound.ensures.only
