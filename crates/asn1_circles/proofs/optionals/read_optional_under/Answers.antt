use Rattle.std.proofs.Common.{◌≡◌, ap, ◌∙◌, arith}
use Rattle.std.proofs.lemmas.Result.{err_from_is_err_and}
use Rattle.asn1_model.specs.Tags.{tree_tags}
use Rattle.std.specs.Prelude.{unwrap_or}
use Rattle.asn1_laws.specs.GivenTypes.{given}
use Rattle.asn1_laws.specs.Sides.{side_of}
use Rattle.asn1_laws.proofs.ReadingOptionals.{is_absent, is_there, not_told, told_of}
use Rattle.asn1_laws.proofs.ReadingWhole.{absence_was_read, mark_away, mark_there, present_was_read}
use Rattle.asn1_circles.proofs.optionals.read_optional_under.Goals as goal

pub returns-in_err-is_there-clause-read : goal.returns-in_err-is_there-clause-read
returns-in_err-is_there-clause-read g c =
    let m = g.W.AsnType.meaning in
    let t = c.unwrap_or-tag.result in
    let is : t ≡ unwrap_or c.args.tag m.tag = c.unwrap_or-tag.ensures ∙ ap (unwrap_or c.args.tag) c.table-table.ensures.tag in
    let asked = ap tree_tags (c.under.ensures ∙ c.table-table.ensures.tree t) in
    let p = err_from_is_err_and c.from_residual.result c.from_residual.ensures.1 in
    rw (← is, p.1, p.2) (not_told g.D.Decoder.reader (side_of c.args.side) (given t m.constraints m) g.W.PartialEq.eq _ _ (λ _. told_of g.D.Decoder.reader _ _ asked c.in_err-is_there.ensures.read))

pub returns-then-not-branch-clause-read : goal.returns-then-not-branch-clause-read
returns-then-not-branch-clause-read g c =
    let m = g.W.AsnType.meaning in
    let t = c.unwrap_or-tag.result in
    let is : t ≡ unwrap_or c.args.tag m.tag = c.unwrap_or-tag.ensures ∙ ap (unwrap_or c.args.tag) c.table-table.ensures.tag in
    let asked = ap tree_tags (c.under.ensures ∙ c.table-table.ensures.tree t) in
    rw (← is) (is_absent g.D.Decoder.reader (side_of c.args.side) (given t m.constraints m) g.W.PartialEq.eq _ _ (λ _. told_of g.D.Decoder.reader _ _ asked c.in_ok-is_there.ensures.read) c.if-not-branch.true)

pub returns-clause-read : goal.returns-clause-read
returns-clause-read g c =
    let m = g.W.AsnType.meaning in
    let t = c.unwrap_or-tag.result in
    let is : t ≡ unwrap_or c.args.tag m.tag = c.unwrap_or-tag.ensures ∙ ap (unwrap_or c.args.tag) c.table-table.ensures.tag in
    let asked = ap tree_tags (c.under.ensures ∙ c.table-table.ensures.tree t) in
    rw (← is) (is_there g.D.Decoder.reader (side_of c.args.side) (given t m.constraints m) g.W.PartialEq.eq _ c.is_there.new.decoder c.read_present_with.new.decoder c.read_present_with.result (λ _. told_of g.D.Decoder.reader _ _ asked c.in_ok-is_there.ensures.read) c.if-not-branch.false
    c.in_ok-is_there.ensures.opens_nothing.keeps_depth.same_depth c.read_present_with.ensures.read)

pub read_present_with-requires-clause-callable : goal.read_present_with-requires-clause-callable
read_present_with-requires-clause-callable g c = λ at t low. c.requires.callable at t (omega (arith, low, c.in_ok-is_there.ensures.opens_nothing.keeps_depth.same_depth))

pub returns-then-not-branch-clause-only : goal.returns-then-not-branch-clause-only
returns-then-not-branch-clause-only g c =
    let m = g.W.AsnType.meaning in
    let t = c.unwrap_or-tag.result in
    let is : t ≡ unwrap_or c.args.tag m.tag = c.unwrap_or-tag.ensures ∙ ap (unwrap_or c.args.tag) c.table-table.ensures.tag in
    rw (← is) (absence_was_read g.D.Decoder.reader (λ v. m.IsReadAs v t m.constraints) (side_of c.args.side) t _ _
    (mark_away g.D.Decoder.reader _ _ _ _ _ c.if-not-branch.true c.in_ok-is_there.ensures.only))

pub returns-clause-only : goal.returns-clause-only
returns-clause-only g c =
    let m = g.W.AsnType.meaning in
    let t = c.unwrap_or-tag.result in
    let is : t ≡ unwrap_or c.args.tag m.tag = c.unwrap_or-tag.ensures ∙ ap (unwrap_or c.args.tag) c.table-table.ensures.tag in
    rw (← is) (present_was_read g.D.Decoder.reader (λ v. m.IsReadAs v t m.constraints) (side_of c.args.side) t _ _ _ c.read_present_with.result
    (mark_there g.D.Decoder.reader _ _ _ _ _ c.if-not-branch.false c.in_ok-is_there.ensures.only) c.read_present_with.ensures.only)
