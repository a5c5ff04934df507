use Rattle.std.proofs.Common.{arith}
use Rattle.std.specs.List.{flat_map}
use Rattle.std.proofs.lemmas.Result.{err_from_is_err_and}
use Rattle.asn1_model.specs.ConstraintSets.{constraint_set}
use Rattle.asn1_model.specs.Meaning.{own_records, IsReadAsOwn}
use Rattle.asn1_model.specs.Records.{sequence_of}
use Rattle.asn1_laws.proofs.ReadingElements.{as_many}
use Rattle.asn1_laws.proofs.ReadingSteps.{fails_inside, flat_failure, within_scope}
use Rattle.asn1_laws.proofs.ReadingWhole.{scope_was_read}
use Rattle.asn1_model.specs.Readings.{AreElementsRead}
use Rattle.asn1_dec.proofs.decoder.Decoder.decode_sequence_of.Goals as goal

pub returns-in_err-elements-clause-read : goal.returns-in_err-elements-clause-read
returns-in_err-elements-clause-read g c = λ vs n rest outer can of_type valid at.
    let p = err_from_is_err_and c.from_residual-in_err-elements.result c.from_residual-in_err-elements.ensures.1 in
    let rs = flat_map (own_records g.T.AsnType.meaning) vs in
    let s = c.in_ok-bound.ensures.read n rs rest outer at in
    let r = c.in_err-elements.ensures.read vs _ outer can of_type valid (omega (arith, s.answer, as_many g.T.AsnType.meaning can vs)) s.at in
    rw (p.1, p.2) (fails_inside (sequence_of c.args.tag (constraint_set c.args.constraints.now) n) rs _ _ c.in_ok-bound.ensures.takes_depth.one_less r)

pub returns-in_err-close-clause-read : goal.returns-in_err-close-clause-read
returns-in_err-close-clause-read g c = λ vs n rest outer can of_type valid at.
    let p = err_from_is_err_and c.from_residual-in_err-close.result c.from_residual-in_err-close.ensures.1 in
    let rs = flat_map (own_records g.T.AsnType.meaning) vs in
    let s = c.in_ok-bound.ensures.read n rs rest outer at in
    let r = c.in_ok-elements.ensures.read vs _ outer can of_type valid (omega (arith, s.answer, as_many g.T.AsnType.meaning can vs)) s.at in
    rw (p.1, p.2) (flat_failure _ _ _ (c.in_err-close.ensures.read _ rest outer r.at))

pub returns-clause-read : goal.returns-clause-read
returns-clause-read g c = λ vs n rest outer can of_type valid at.
    let rs = flat_map (own_records g.T.AsnType.meaning) vs in
    let s = c.in_ok-bound.ensures.read n rs rest outer at in
    let r = c.in_ok-elements.ensures.read vs _ outer can of_type valid (omega (arith, s.answer, as_many g.T.AsnType.meaning can vs)) s.at in
    let k = c.in_ok-close.ensures.read _ rest outer r.at in
    record { answer = r.answer; at = k.at; within_depth_left = within_scope (sequence_of c.args.tag (constraint_set c.args.constraints.now) n) rs _ _ c.in_ok-bound.ensures.takes_depth.one_less r.within_depth_left }

pub returns-clause-only : goal.returns-clause-only
returns-clause-only g c =
    scope_was_read g.Self.Decoder.reader (AreElementsRead (IsReadAsOwn g.T.AsnType.meaning)) _ c.args.self.now _ _ _
    c.in_ok-elements.ensures.only c.in_ok-close.ensures.only (sequence_of c.args.tag (constraint_set c.args.constraints.now)) c.in_ok-bound.ensures.only
