use Rattle.std.proofs.Common.{[], ◌∷◌, inl, refl, rules, arith, ap, length, length-append}
use Rattle.std.specs.List.{flat_map}
use Rattle.std.proofs.lemmas.Result.{err_from_is_err_and}
use Rattle.asn1_model.specs.Meaning.{own_records, IsReadAsOwn}
use Rattle.asn1_laws.proofs.ReadingElements.{not_told, another, through, further, no_deeper}
use Rattle.asn1_laws.proofs.ReadingSteps.{fails_below}
use Rattle.asn1_laws.proofs.ReadingWhole.{no_element_was_read, one_more_was_read, read_more}
use Rattle.asn1_laws.proofs.ReadingExactly.{nothing_read}
use Rattle.asn1_dec.proofs.elements.read_elements.Goals as goal

pub loop-index-init : goal.loop-index-init
loop-index-init g c = record {
  kept = refl;
  count = rw c.new-elements.ensures.items refl;
  so_far = λ vs scope outer can of_type valid at. rw c.new-elements.ensures.items (search rules);
  exactly = rw c.new-elements.ensures.items (no_element_was_read g.D.Decoder.reader (IsReadAsOwn g.T.AsnType.meaning) _ _ (nothing_read g.D.Decoder.reader _));
}

pub loop-index-preserved : goal.loop-index-preserved
loop-index-preserved g c = record {
  exactly = rw c.in-Ok-push.ensures.items (one_more_was_read g.D.Decoder.reader (IsReadAsOwn g.T.AsnType.meaning) _ _ _ _ _
      (read_more g.D.Decoder.reader _ _ _ _ c.loop-index.invariant.exactly c.in_ok-more.ensures.only) c.in-Ok.ensures.only);
  kept = omega (arith, c.loop-index.invariant.kept, c.in_ok-more.ensures.opens_nothing.keeps_depth.same_depth, c.in-Ok.ensures.after_reading.same_depth);
  count = omega (arith, c.loop-index.invariant.count, ap length c.in-Ok-push.ensures.items, length-append c.loop-index.elements.items (c.in-Ok.element ∷ []));
  so_far = λ vs scope outer can of_type valid at.
      let mid = c.loop-index.invariant.so_far vs scope outer can of_type valid at in
      let a = another g.D.Decoder.reader g.T.AsnType.meaning g.T.PartialEq.eq can _ mid c.in_ok-more.ensures.read c.if-not-branch.false c.in_ok-more.ensures.opens_nothing.keeps_depth.same_depth in
      let r = c.in-Ok.ensures.read a.next g.T.AsnType.meaning.name (flat_map (own_records g.T.AsnType.meaning) a.todo) (scope ∷ outer) can.1 a.next_of_type a.next_valid (inl can.0) a.at in
      let f = further g.D.Decoder.reader g.T.AsnType.meaning g.T.PartialEq.eq c.decode.new.decoder c.in-Ok.element a r.within_depth_left r.answer r.at c.in-Ok.ensures.after_reading.same_depth in
      rw c.in-Ok-push.ensures.items f;
}

pub returns-in_err-more-clause-read : goal.returns-in_err-more-clause-read
returns-in_err-more-clause-read g c = λ vs scope outer can of_type valid few at.
    let p = err_from_is_err_and c.from_residual.result c.from_residual.ensures.1 in
    let mid = c.loop-index.invariant.so_far vs scope outer can of_type valid at in
    rw (p.1, p.2) (not_told g.D.Decoder.reader g.T.AsnType.meaning g.T.PartialEq.eq can _ _ mid c.in_err-more.ensures.read)

pub returns-then-not-branch-clause-read : goal.returns-then-not-branch-clause-read
returns-then-not-branch-clause-read g c = λ vs scope outer can of_type valid few at.
    let mid = c.loop-index.invariant.so_far vs scope outer can of_type valid at in
    let t = through g.D.Decoder.reader g.T.AsnType.meaning g.T.PartialEq.eq can _ mid c.in_ok-more.ensures.read c.if-not-branch.true c.in_ok-more.ensures.opens_nothing.keeps_depth.same_depth in
    record { answer = t.same; at = t.at; within_depth_left = omega (arith, t.low, c.loop-index.invariant.kept, c.in_ok-more.ensures.opens_nothing.keeps_depth.same_depth) }

pub returns-in-Err-clause-read : goal.returns-in-Err-clause-read
returns-in-Err-clause-read g c = λ vs scope outer can of_type valid few at.
    let mid = c.loop-index.invariant.so_far vs scope outer can of_type valid at in
    let a = another g.D.Decoder.reader g.T.AsnType.meaning g.T.PartialEq.eq can _ mid c.in_ok-more.ensures.read c.if-not-branch.false c.in_ok-more.ensures.opens_nothing.keeps_depth.same_depth in
    let r = c.in-Err.ensures.read a.next g.T.AsnType.meaning.name (flat_map (own_records g.T.AsnType.meaning) a.todo) (scope ∷ outer) can.1 a.next_of_type a.next_valid (inl can.0) a.at in
    rw c.refuse.ensures.same (fails_below _ _ _ (omega (arith, c.loop-index.invariant.kept, c.in_ok-more.ensures.opens_nothing.keeps_depth.same_depth)) (no_deeper (own_records g.T.AsnType.meaning) a.done a.todo a.next vs a.split) r)

pub returns-then-not-branch-clause-only : goal.returns-then-not-branch-clause-only
returns-then-not-branch-clause-only g c =
    read_more g.D.Decoder.reader _ _ _ _ c.loop-index.invariant.exactly c.in_ok-more.ensures.only

pub returns-clause-only : goal.returns-clause-only
returns-clause-only g c = c.loop-index.invariant.exactly
