use Rattle.std.proofs.Common.{Err, None, Ok, Some, ap}
use Rattle.std.proofs.lemmas.Result.{err_from_is_err_and}
use Rattle.asn1_model.specs.Tags.{tree_tags}
use Rattle.asn1_tags.proofs.Leaves.{shape-Leaf}
use Rattle.asn1_laws.specs.GivenTypes.{constraints_or_own, given_after_tag}
use Rattle.asn1_laws.specs.Sides.{side_of}
use Rattle.asn1_laws.proofs.ReadingOptionals.{is_absent, is_there, not_told, told_of}
use Rattle.asn1_laws.proofs.ReadingWhole.{absence_was_read, mark_away, mark_there, option_was_read}
use Rattle.asn1_dec.proofs.optionals.read_optional_after_tag.Goals as goal

pub returns-in_err-is_there-clause-read : goal.returns-in_err-is_there-clause-read
returns-in_err-is_there-clause-read g c =
    let p = err_from_is_err_and c.from_residual.result c.from_residual.ensures.1 in
    rw (p.1, p.2) (not_told g.D.Decoder.reader (side_of c.args.side) (given_after_tag c.args.tag (constraints_or_own c.args.constraints g.T.AsnType.meaning) g.T.AsnType.meaning) g.T.PartialEq.eq _ _ (λ _. told_of g.D.Decoder.reader _ _ (ap tree_tags (shape-Leaf c.args.tag)) c.in_err-is_there.ensures.read))

pub returns-then-not-branch-clause-read : goal.returns-then-not-branch-clause-read
returns-then-not-branch-clause-read g c =
    is_absent g.D.Decoder.reader (side_of c.args.side) (given_after_tag c.args.tag (constraints_or_own c.args.constraints g.T.AsnType.meaning) g.T.AsnType.meaning) g.T.PartialEq.eq _ _ (λ _. told_of g.D.Decoder.reader _ _ (ap tree_tags (shape-Leaf c.args.tag)) c.in_ok-is_there.ensures.read) c.if-not-branch.true

pub returns-in_err-value-clause-read : goal.returns-in_err-value-clause-read
returns-in_err-value-clause-read g c =
    let p = err_from_is_err_and c.from_residual-in_err-value.result c.from_residual-in_err-value.ensures.1 in
    rw (p.1, p.2) (is_there g.D.Decoder.reader (side_of c.args.side) (given_after_tag c.args.tag (constraints_or_own c.args.constraints g.T.AsnType.meaning) g.T.AsnType.meaning) g.T.PartialEq.eq _ _ c.args.decoder.now (Err _) (λ _. told_of g.D.Decoder.reader _ _ (ap tree_tags (shape-Leaf c.args.tag)) c.in_ok-is_there.ensures.read) c.if-not-branch.false c.in_ok-is_there.ensures.opens_nothing.keeps_depth.same_depth c.in_err-value.ensures.read)

pub returns-clause-read : goal.returns-clause-read
returns-clause-read g c =
    is_there g.D.Decoder.reader (side_of c.args.side) (given_after_tag c.args.tag (constraints_or_own c.args.constraints g.T.AsnType.meaning) g.T.AsnType.meaning) g.T.PartialEq.eq _ _ c.read_after_explicit_tag.new.decoder (Ok (Some _)) (λ _. told_of g.D.Decoder.reader _ _ (ap tree_tags (shape-Leaf c.args.tag)) c.in_ok-is_there.ensures.read) c.if-not-branch.false c.in_ok-is_there.ensures.opens_nothing.keeps_depth.same_depth c.in_ok-value.ensures.read

pub returns-then-not-branch-clause-only : goal.returns-then-not-branch-clause-only
returns-then-not-branch-clause-only g c =
    let m = g.T.AsnType.meaning in
    absence_was_read g.D.Decoder.reader (given_after_tag c.args.tag (constraints_or_own c.args.constraints m) m None).IsReadAs (side_of c.args.side) c.args.tag _ _
    (mark_away g.D.Decoder.reader _ _ _ _ _ c.if-not-branch.true c.in_ok-is_there.ensures.only)

pub returns-clause-only : goal.returns-clause-only
returns-clause-only g c =
    let m = g.T.AsnType.meaning in
    option_was_read g.D.Decoder.reader (given_after_tag c.args.tag (constraints_or_own c.args.constraints m) m None).IsReadAs (side_of c.args.side) c.args.tag _ _ _ _
    (mark_there g.D.Decoder.reader _ _ _ _ _ c.if-not-branch.false c.in_ok-is_there.ensures.only) c.in_ok-value.ensures.only
