use Rattle.std.proofs.Common.{◌≡◌, ap, ◌∙◌}
use Rattle.std.proofs.lemmas.Result.{err_from_is_err_and}
use Rattle.asn1_model.specs.Tags.{tree_tags}
use Rattle.std.specs.Prelude.{unwrap_or}
use Rattle.asn1_laws.specs.GivenTypes.{constraints_or_own, given}
use Rattle.asn1_laws.specs.Sides.{side_of}
use Rattle.asn1_laws.proofs.ReadingOptionals.{is_absent, is_there, not_told, told_of}
use Rattle.asn1_laws.proofs.ReadingWhole.{absence_was_read, mark_away, mark_there, present_was_read}
use Rattle.asn1_dec.proofs.optionals.read_optional.Goals as goal

pub returns-in_err-is_there-clause-read : goal.returns-in_err-is_there-clause-read
returns-in_err-is_there-clause-read g c =
    let m = g.T.AsnType.meaning in
    let t = c.unwrap_or-tag.result in
    let is : t ≡ unwrap_or c.args.tag m.tag = c.unwrap_or-tag.ensures ∙ ap (unwrap_or c.args.tag) c.table-table.ensures.tag in
    let asked = ap tree_tags (c.under.ensures ∙ c.table-table.ensures.tree t) in
    let p = err_from_is_err_and c.from_residual.result c.from_residual.ensures.1 in
    rw (← is, p.1, p.2) (not_told g.D.Decoder.reader (side_of c.args.side) (given t (constraints_or_own c.args.constraints m) m) g.T.PartialEq.eq _ _ (λ _. told_of g.D.Decoder.reader _ _ asked c.in_err-is_there.ensures.read))

pub returns-then-not-branch-clause-read : goal.returns-then-not-branch-clause-read
returns-then-not-branch-clause-read g c =
    let m = g.T.AsnType.meaning in
    let t = c.unwrap_or-tag.result in
    let is : t ≡ unwrap_or c.args.tag m.tag = c.unwrap_or-tag.ensures ∙ ap (unwrap_or c.args.tag) c.table-table.ensures.tag in
    let asked = ap tree_tags (c.under.ensures ∙ c.table-table.ensures.tree t) in
    rw (← is) (is_absent g.D.Decoder.reader (side_of c.args.side) (given t (constraints_or_own c.args.constraints m) m) g.T.PartialEq.eq _ _ (λ _. told_of g.D.Decoder.reader _ _ asked c.in_ok-is_there.ensures.read) c.if-not-branch.true)

pub returns-clause-read : goal.returns-clause-read
returns-clause-read g c =
    let m = g.T.AsnType.meaning in
    let t = c.unwrap_or-tag.result in
    let is : t ≡ unwrap_or c.args.tag m.tag = c.unwrap_or-tag.ensures ∙ ap (unwrap_or c.args.tag) c.table-table.ensures.tag in
    let asked = ap tree_tags (c.under.ensures ∙ c.table-table.ensures.tree t) in
    rw (← is) (is_there g.D.Decoder.reader (side_of c.args.side) (given t (constraints_or_own c.args.constraints m) m) g.T.PartialEq.eq _ c.is_there.new.decoder c.read_present.new.decoder c.read_present.result (λ _. told_of g.D.Decoder.reader _ _ asked c.in_ok-is_there.ensures.read) c.if-not-branch.false
    c.in_ok-is_there.ensures.opens_nothing.keeps_depth.same_depth c.read_present.ensures.read)

pub returns-then-not-branch-clause-only : goal.returns-then-not-branch-clause-only
returns-then-not-branch-clause-only g c =
    let m = g.T.AsnType.meaning in
    let t = c.unwrap_or-tag.result in
    let is : t ≡ unwrap_or c.args.tag m.tag = c.unwrap_or-tag.ensures ∙ ap (unwrap_or c.args.tag) c.table-table.ensures.tag in
    rw (← is) (absence_was_read g.D.Decoder.reader (λ v. m.IsReadAs v t (constraints_or_own c.args.constraints m)) (side_of c.args.side) t _ _
    (mark_away g.D.Decoder.reader _ _ _ _ _ c.if-not-branch.true c.in_ok-is_there.ensures.only))

pub returns-clause-only : goal.returns-clause-only
returns-clause-only g c =
    let m = g.T.AsnType.meaning in
    let t = c.unwrap_or-tag.result in
    let is : t ≡ unwrap_or c.args.tag m.tag = c.unwrap_or-tag.ensures ∙ ap (unwrap_or c.args.tag) c.table-table.ensures.tag in
    rw (← is) (present_was_read g.D.Decoder.reader (λ v. m.IsReadAs v t (constraints_or_own c.args.constraints m)) (side_of c.args.side) t _ _ _ c.read_present.result
    (mark_there g.D.Decoder.reader _ _ _ _ _ c.if-not-branch.false c.in_ok-is_there.ensures.only) c.read_present.ensures.only)
