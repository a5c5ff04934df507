use Rattle.std.proofs.Common.{◌∷◌, None, arith, refl, sym}
use Rattle.std.proofs.lemmas.Result.{err_from_is_err_and}
use Rattle.asn1_components.proofs.DistinctFollowers.{group_ends}
use Rattle.asn1_components.specs.Components.{all_components, rows}
use Rattle.asn1_model.specs.Records.{group_end, presence_mark}
use Rattle.asn1_laws.proofs.ReadingGroups.{is_there, not_there, not_told}
use Rattle.asn1_laws.proofs.ReadingSteps.{fails_below, flat_failure}
use Rattle.asn1_laws.proofs.ReadingWhole.{group_was_read, mark_away, mark_there, these_were_read}
use Rattle.asn1_components.specs.ComponentLists.{IsReadAsGroup}
use Rattle.asn1_dec.proofs.decoder.Decoder.decode_extension_addition_group.Goals as goal

pub returns-in_err-open_group-clause-read : goal.returns-in_err-open_group-clause-read
returns-in_err-open_group-clause-read g c = λ v rest outer can of_type valid apart at.
    let p = err_from_is_err_and c.from_residual.result c.from_residual.ensures.1 in
    rw (p.1, p.2) (not_told (all_components g.C.FieldTable.components) (rows g.C.FieldTable.components) g.Self.Decoder.reader c.args.self.now _ rest outer can.0 apart _ _ c.in_err-open_group.ensures.read v valid at)

pub returns-then-not-branch-clause-read : goal.returns-then-not-branch-clause-read
returns-then-not-branch-clause-read g c = λ v rest outer can of_type valid apart at.
    let n = not_there (all_components g.C.FieldTable.components) (rows g.C.FieldTable.components) g.Self.Decoder.reader c.args.self.now c.open_group.new.self rest outer can.0 apart c.in_ok-open_group.ensures.read c.if-not-branch.true v valid at in
    rw n.0 (record { answer = refl; at = n.1; within_depth_left = omega arith })

pub returns-in-Err-clause-read : goal.returns-in-Err-clause-read
returns-in-Err-clause-read g c = λ v rest outer can of_type valid apart at.
    let n = is_there (all_components g.C.FieldTable.components) (rows g.C.FieldTable.components) g.Self.Decoder.reader c.args.self.now c.open_group.new.self rest outer can.0 apart c.in_ok-open_group.ensures.read c.if-not-branch.false v of_type valid at in
    let r = c.in-Err.ensures.read n.held (presence_mark group_end ∷ rest) outer can n.of_type n.valid (group_ends (all_components g.C.FieldTable.components) (presence_mark group_end ∷ rest) apart) n.at in
    rw c.refuse.ensures.same (fails_below _ _ _ (sym c.in_ok-open_group.ensures.opens_nothing.keeps_depth.same_depth) (omega (arith, n.high)) r)

pub returns-in_err-close_group-clause-read : goal.returns-in_err-close_group-clause-read
returns-in_err-close_group-clause-read g c = λ v rest outer can of_type valid apart at.
    let p = err_from_is_err_and c.from_residual-in_err-close_group.result c.from_residual-in_err-close_group.ensures.1 in
    let n = is_there (all_components g.C.FieldTable.components) (rows g.C.FieldTable.components) g.Self.Decoder.reader c.args.self.now c.open_group.new.self rest outer can.0 apart c.in_ok-open_group.ensures.read c.if-not-branch.false v of_type valid at in
    let r = c.in-Ok.ensures.read n.held (presence_mark group_end ∷ rest) outer can n.of_type n.valid (group_ends (all_components g.C.FieldTable.components) (presence_mark group_end ∷ rest) apart) n.at in
    rw (p.1, p.2) (flat_failure _ _ _ (c.in_err-close_group.ensures.read rest outer r.at))

pub returns-clause-read : goal.returns-clause-read
returns-clause-read g c = λ v rest outer can of_type valid apart at.
    let n = is_there (all_components g.C.FieldTable.components) (rows g.C.FieldTable.components) g.Self.Decoder.reader c.args.self.now c.open_group.new.self rest outer can.0 apart c.in_ok-open_group.ensures.read c.if-not-branch.false v of_type valid at in
    let r = c.in-Ok.ensures.read n.held (presence_mark group_end ∷ rest) outer can n.of_type n.valid (group_ends (all_components g.C.FieldTable.components) (presence_mark group_end ∷ rest) apart) n.at in
    let k = c.in_ok-close_group.ensures.read rest outer r.at in
    record { answer = rw n.is r.answer; at = k.at; within_depth_left = omega (arith, r.within_depth_left, n.high, c.in_ok-open_group.ensures.opens_nothing.keeps_depth.same_depth) }

pub returns-then-not-branch-clause-only : goal.returns-then-not-branch-clause-only
returns-then-not-branch-clause-only g c =
    these_were_read g.Self.Decoder.reader _ _ _ (IsReadAsGroup (rows g.C.FieldTable.components) (all_components g.C.FieldTable.components) None) refl
    (mark_away g.Self.Decoder.reader _ _ _ _ _ c.if-not-branch.true c.in_ok-open_group.ensures.only)

pub returns-clause-only : goal.returns-clause-only
returns-clause-only g c =
    group_was_read g.Self.Decoder.reader (rows g.C.FieldTable.components) (all_components g.C.FieldTable.components) _ c.args.self.now _ _ _
    (mark_there g.Self.Decoder.reader _ _ _ _ _ c.if-not-branch.false c.in_ok-open_group.ensures.only) c.in-Ok.ensures.only c.in_ok-close_group.ensures.only
