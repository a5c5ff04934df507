use Rattle.std.proofs.Common.{[], ◌∷◌, inl}
use Rattle.std.proofs.lemmas.Result.{err_from_is_err_and}
use Rattle.asn1_model.specs.Records.{explicit_tag}
use Rattle.asn1_laws.specs.GivenTypes.{constraints_or_own}
use Rattle.asn1_laws.proofs.ReadingSteps.{to_end, fails_inside, flat_failure, within_scope}
use Rattle.asn1_laws.proofs.ReadingWhole.{tag_was_read}
use Rattle.asn1_dec.proofs.explicit_tags.read_after_explicit_tag.Goals as goal

pub returns-in-Err-clause-read : goal.returns-in-Err-clause-read
returns-in-Err-clause-read g c = λ v n rest outer can of_type valid at.
    let rs = g.T.AsnType.meaning.records v g.T.AsnType.meaning.tag (constraints_or_own c.args.constraints g.T.AsnType.meaning) g.T.AsnType.meaning.name in
    let s = c.in_ok-open_explicit_prefix.ensures.read n rs rest outer at in
    let r = (rw c.tag.ensures at c.in-Err.ensures.read) v g.T.AsnType.meaning.name [] ((_, rest) ∷ outer) can.1 of_type valid (inl can.0) (to_end g.D.Decoder.reader _ rs ((_, rest) ∷ outer) s.at) in
    rw c.refuse.ensures.same (fails_inside (explicit_tag c.args.tag n) rs _ _ c.in_ok-open_explicit_prefix.ensures.takes_depth.one_less r)

pub returns-in_err-close-clause-read : goal.returns-in_err-close-clause-read
returns-in_err-close-clause-read g c = λ v n rest outer can of_type valid at.
    let p = err_from_is_err_and c.from_residual-in_err-close.result c.from_residual-in_err-close.ensures.1 in
    let rs = g.T.AsnType.meaning.records v g.T.AsnType.meaning.tag (constraints_or_own c.args.constraints g.T.AsnType.meaning) g.T.AsnType.meaning.name in
    let s = c.in_ok-open_explicit_prefix.ensures.read n rs rest outer at in
    let r = (rw c.tag.ensures at c.in-Ok.ensures.read) v g.T.AsnType.meaning.name [] ((_, rest) ∷ outer) can.1 of_type valid (inl can.0) (to_end g.D.Decoder.reader _ rs ((_, rest) ∷ outer) s.at) in
    rw (p.1, p.2) (flat_failure _ _ _ (c.in_err-close.ensures.read _ rest outer r.at))

pub returns-clause-read : goal.returns-clause-read
returns-clause-read g c = λ v n rest outer can of_type valid at.
    let rs = g.T.AsnType.meaning.records v g.T.AsnType.meaning.tag (constraints_or_own c.args.constraints g.T.AsnType.meaning) g.T.AsnType.meaning.name in
    let s = c.in_ok-open_explicit_prefix.ensures.read n rs rest outer at in
    let r = (rw c.tag.ensures at c.in-Ok.ensures.read) v g.T.AsnType.meaning.name [] ((_, rest) ∷ outer) can.1 of_type valid (inl can.0) (to_end g.D.Decoder.reader _ rs ((_, rest) ∷ outer) s.at) in
    let k = c.in_ok-close.ensures.read _ rest outer r.at in
    record { answer = r.answer; at = k.at; within_depth_left = within_scope (explicit_tag c.args.tag n) rs _ _ c.in_ok-open_explicit_prefix.ensures.takes_depth.one_less r.within_depth_left }

pub returns-clause-only : goal.returns-clause-only
returns-clause-only g c =
    let m = g.T.AsnType.meaning in
    tag_was_read g.D.Decoder.reader (λ v. m.IsReadAs v m.tag (constraints_or_own c.args.constraints m)) _ c.args.decoder.now _ _ _
    (rw c.tag.ensures at c.in-Ok.ensures.only) c.in_ok-close.ensures.only c.args.tag c.in_ok-open_explicit_prefix.ensures.only
