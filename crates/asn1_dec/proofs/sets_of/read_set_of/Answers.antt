use Rattle.std.specs.List.{flat_map}
use Rattle.std.proofs.lemmas.Result.{err_from_is_err_and}
use Rattle.asn1_laws.proofs.ReadingSteps.{fails_inside, flat_failure, within_scope}
use Rattle.asn1_model.specs.ConstraintSets.{constraint_set}
use Rattle.asn1_model.specs.Meaning.{own_records, IsReadAsOwn}
use Rattle.asn1_model.specs.Records.{set_of}
use Rattle.asn1_types.specs.MultisetLaws.{same_counts-SameElements}
use Rattle.asn1_laws.proofs.ReadingSetsOf.{before_elements}
use Rattle.asn1_laws.proofs.ReadingWhole.{scope_was_read}
use Rattle.asn1_model.specs.Readings.{AreElementsRead}
use Rattle.asn1_dec.proofs.sets_of.read_set_of.Goals as goal

pub returns-in_err-elements-clause-read : goal.returns-in_err-elements-clause-read
returns-in_err-elements-clause-read g c = λ vs n rest outer can of_type valid at.
    let p = err_from_is_err_and c.from_residual-in_err-elements.result c.from_residual-in_err-elements.ensures.1 in
    let rs = flat_map (own_records g.T.AsnType.meaning) vs in
    let s = c.in_ok-bound.ensures.read n rs rest outer at in
    let b = before_elements g.D.Decoder.reader g.T.AsnType.meaning can c.open_set_of.new.self vs s.order c.in_ok-bound.bound _ of_type valid s.moved.answer s.rearranged s.moved.at in
    let r = c.in_err-elements.ensures.read b.order _ outer can b.of_type b.valid b.few b.at in
    rw (p.1, p.2) (fails_inside (set_of c.args.tag (constraint_set c.args.constraints.now) n) rs _ _ c.in_ok-bound.ensures.takes_depth.one_less (rw b.same_height at r))

pub returns-in_err-close-clause-read : goal.returns-in_err-close-clause-read
returns-in_err-close-clause-read g c = λ vs n rest outer can of_type valid at.
    let p = err_from_is_err_and c.from_residual-in_err-close.result c.from_residual-in_err-close.ensures.1 in
    let rs = flat_map (own_records g.T.AsnType.meaning) vs in
    let s = c.in_ok-bound.ensures.read n rs rest outer at in
    let b = before_elements g.D.Decoder.reader g.T.AsnType.meaning can c.open_set_of.new.self vs s.order c.in_ok-bound.bound _ of_type valid s.moved.answer s.rearranged s.moved.at in
    let r = c.in_ok-elements.ensures.read b.order _ outer can b.of_type b.valid b.few b.at in
    rw (p.1, p.2) (flat_failure _ _ _ (c.in_err-close.ensures.read _ rest outer r.at))

pub returns-clause-read : goal.returns-clause-read
returns-clause-read g c = λ vs n rest outer can of_type valid at.
    let rs = flat_map (own_records g.T.AsnType.meaning) vs in
    let s = c.in_ok-bound.ensures.read n rs rest outer at in
    let b = before_elements g.D.Decoder.reader g.T.AsnType.meaning can c.open_set_of.new.self vs s.order c.in_ok-bound.bound _ of_type valid s.moved.answer s.rearranged s.moved.at in
    let r = c.in_ok-elements.ensures.read b.order _ outer can b.of_type b.valid b.few b.at in
    let k = c.in_ok-close.ensures.read _ rest outer r.at in
    record {
      answer = (same_counts-SameElements {eq = g.T.PartialEq.eq} g.met.T.PartialEq.laws c.from_vec.result vs).1
          (record { order = b.order; rearranged = b.rearranged; equal = rw c.from_vec.ensures r.answer });
      at = k.at;
      within_depth_left = within_scope (set_of c.args.tag (constraint_set c.args.constraints.now) n) rs _ _ c.in_ok-bound.ensures.takes_depth.one_less (rw b.same_height at r.within_depth_left);
    }

pub returns-clause-only : goal.returns-clause-only
returns-clause-only g c =
    rw c.from_vec.ensures (scope_was_read g.D.Decoder.reader (AreElementsRead (IsReadAsOwn g.T.AsnType.meaning)) _ c.args.decoder.now _ _ _
    c.in_ok-elements.ensures.only c.in_ok-close.ensures.only (set_of c.args.tag (constraint_set c.args.constraints.now)) c.in_ok-bound.ensures.only)
