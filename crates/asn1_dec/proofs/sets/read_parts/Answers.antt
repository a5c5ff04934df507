use Rattle.std.proofs.Common.{◌∷◌, refl, arith}
use Rattle.std.proofs.lemmas.Result.{err_from_is_err_and}
use Rattle.asn1_components.specs.Components.{all_components, rows}
use Rattle.asn1_components.proofs.DistinctFollowers.{set_apart}
use Rattle.asn1_model.specs.Records.{set}
use Rattle.asn1_laws.proofs.ReadingSteps.{fails_below}
use Rattle.asn1_laws.proofs.SetRecords.{records}
use Rattle.asn1_laws.proofs.ReadingSets.{comes, comes_at, filled, further, not_told, start, through}
use Rattle.asn1_laws.proofs.ReadingWhole.{marks_were_read, no_part_was_read, one_more_part_was_read}
use Rattle.asn1_laws.proofs.ReadingExactly.{nothing_read}
use Rattle.asn1_dec.proofs.sets.read_parts.Goals as goal

pub loop-count-init : goal.loop-count-init
loop-count-init g c = record {
  kept = refl;
  exactly = rw c.new-parts.ensures.items (no_part_was_read g.D.Decoder.reader g.S.DecodeSet.IsReadAsPart _ _ (nothing_read g.D.Decoder.reader _));
  so_far = λ v tag n items rest outer can of_type valid moved few at.
      rw c.new-parts.ensures.items
      (start g.D.Decoder.reader (all_components g.S.FieldTable.components) v g.S.DecodeSet.index_of (g.S.DecodeSet.is_part_of v) c.args.decoder.now items ((set tag (rows g.S.FieldTable.components) n, rest) ∷ outer) c.args.bound (g.met.S.DecodeSet.one_record_each v can.0) moved few at);
}

pub loop-count-preserved : goal.loop-count-preserved
loop-count-preserved g c = record {
  kept = omega (arith, c.loop-count.invariant.kept, c.in_ok-tag.ensures.opens_nothing.keeps_depth.same_depth, c.in-Ok.ensures.same_depth);
  exactly = rw c.in-Ok-push.ensures.items (one_more_part_was_read g.D.Decoder.reader g.S.DecodeSet.IsReadAsPart _ _ _ _ _
      (marks_were_read g.D.Decoder.reader g.S.DecodeSet.IsReadAsPart _ _ _ _ c.loop-count.invariant.exactly c.in_ok-tag.ensures.only) c.in-Ok.ensures.only);
  so_far = λ v tag n items rest outer can of_type valid moved few at.
      let R = g.D.Decoder.reader in
      let cs = all_components g.S.FieldTable.components in
      let m = c.loop-count.invariant.so_far v tag n items rest outer can of_type valid moved few at in
      let a = comes_at R cs v g.S.DecodeSet.index_of (g.S.DecodeSet.is_part_of v) c.in-Some-component_with_tag.index (set_apart cs can.1.0) c.in-Some-component_with_tag.ensures
      (comes R cs v g.S.DecodeSet.index_of (g.S.DecodeSet.is_part_of v) c.next_component.new.self c.in-Some.tag can.0 m (rw c.in-Some.is at (c.in_ok-tag.ensures.read tag n can (records m.todo) rest outer)) c.in_ok-tag.ensures.opens_nothing.keeps_depth.same_depth) in
      let r = c.in-Ok.ensures.read v (records a.todo) ((_, rest) ∷ outer) can.0 of_type valid a.is_there a.at in
      rw c.in-Ok-push.ensures.items
      (further R cs v g.S.DecodeSet.index_of (g.S.DecodeSet.is_part_of v) c.decode_field.new.decoder c.in-Ok.part a r.answer.0 r.answer.1 r.within_depth_left r.at c.in-Ok.ensures.same_depth);
}

pub returns-in_err-tag-clause-read : goal.returns-in_err-tag-clause-read
returns-in_err-tag-clause-read g c = λ v tag n items rest outer can of_type valid moved few at.
    let p = err_from_is_err_and c.from_residual.result c.from_residual.ensures.1 in
    let m = c.loop-count.invariant.so_far v tag n items rest outer can of_type valid moved few at in
    rw (p.1, p.2) (not_told g.D.Decoder.reader (all_components g.S.FieldTable.components) v g.S.DecodeSet.index_of (g.S.DecodeSet.is_part_of v) c.next_component.new.self _ _ m (c.in_err-tag.ensures.read tag n can (records m.todo) rest outer))

pub returns-in-None-clause-read : goal.returns-in-None-clause-read
returns-in-None-clause-read g c = λ v tag n items rest outer can of_type valid moved few at.
    let m = c.loop-count.invariant.so_far v tag n items rest outer can of_type valid moved few at in
    let t = through g.D.Decoder.reader (all_components g.S.FieldTable.components) v g.S.DecodeSet.index_of (g.S.DecodeSet.is_part_of v) c.next_component.new.self m (rw c.in-None.is at (c.in_ok-tag.ensures.read tag n can (records m.todo) rest outer)) c.in_ok-tag.ensures.opens_nothing.keeps_depth.same_depth in
    record { answer = t.parts_are; at = t.at; within_depth_left = omega (arith, t.low, c.loop-count.invariant.kept, c.in_ok-tag.ensures.opens_nothing.keeps_depth.same_depth) }

pub returns-in-None-component_with_tag-clause-read : goal.returns-in-None-component_with_tag-clause-read
returns-in-None-component_with_tag-clause-read g c = λ v tag n items rest outer can of_type valid moved few at.
    let R = g.D.Decoder.reader in
    let cs = all_components g.S.FieldTable.components in
    let m = c.loop-count.invariant.so_far v tag n items rest outer can of_type valid moved few at in
    let a = comes R cs v g.S.DecodeSet.index_of (g.S.DecodeSet.is_part_of v) c.next_component.new.self c.in-Some.tag can.0 m (rw c.in-Some.is at (c.in_ok-tag.ensures.read tag n can (records m.todo) rest outer)) c.in_ok-tag.ensures.opens_nothing.keeps_depth.same_depth in
    absurd (c.in-None-component_with_tag.ensures a.index a.begins)

pub returns-in-Err-clause-read : goal.returns-in-Err-clause-read
returns-in-Err-clause-read g c = λ v tag n items rest outer can of_type valid moved few at.
    let R = g.D.Decoder.reader in
    let cs = all_components g.S.FieldTable.components in
    let m = c.loop-count.invariant.so_far v tag n items rest outer can of_type valid moved few at in
    let a = comes_at R cs v g.S.DecodeSet.index_of (g.S.DecodeSet.is_part_of v) c.in-Some-component_with_tag.index (set_apart cs can.1.0) c.in-Some-component_with_tag.ensures
    (comes R cs v g.S.DecodeSet.index_of (g.S.DecodeSet.is_part_of v) c.next_component.new.self c.in-Some.tag can.0 m (rw c.in-Some.is at (c.in_ok-tag.ensures.read tag n can (records m.todo) rest outer)) c.in_ok-tag.ensures.opens_nothing.keeps_depth.same_depth) in
    let r = c.in-Err.ensures.read v (records a.todo) ((_, rest) ∷ outer) can.0 of_type valid a.is_there a.at in
    rw c.refuse-in-Err.ensures.same (fails_below _ _ _ (omega (arith, c.loop-count.invariant.kept, c.in_ok-tag.ensures.opens_nothing.keeps_depth.same_depth)) (omega (arith, a.no_deeper)) r)

pub returns-in_err-next_component-clause-read : goal.returns-in_err-next_component-clause-read
returns-in_err-next_component-clause-read g c = λ v tag n items rest outer can of_type valid moved few at.
    let p = err_from_is_err_and c.from_residual-in_err-next_component.result c.from_residual-in_err-next_component.ensures.1 in
    let m = c.loop-count.invariant.so_far v tag n items rest outer can of_type valid moved few at in
    rw (p.1, p.2) (not_told g.D.Decoder.reader (all_components g.S.FieldTable.components) v g.S.DecodeSet.index_of (g.S.DecodeSet.is_part_of v) c.next_component-2.new.self _ _ m (c.in_err-next_component.ensures.read tag n can (records m.todo) rest outer))

pub returns-clause-read : goal.returns-clause-read
returns-clause-read g c = λ v tag n items rest outer can of_type valid moved few at.
    let m = c.loop-count.invariant.so_far v tag n items rest outer can of_type valid moved few at in
    let t = filled g.D.Decoder.reader (all_components g.S.FieldTable.components) v g.S.DecodeSet.index_of (g.S.DecodeSet.is_part_of v) c.next_component-2.new.self c.in_ok-next_component.field-0 m (omega (arith, c.loop-count-test.false)) (c.in_ok-next_component.ensures.read tag n can (records m.todo) rest outer) c.in_ok-next_component.ensures.opens_nothing.keeps_depth.same_depth in
    record { answer = t.parts_are; at = t.at; within_depth_left = omega (arith, t.low, c.loop-count.invariant.kept, c.in_ok-next_component.ensures.opens_nothing.keeps_depth.same_depth) }

pub returns-in-None-clause-only : goal.returns-in-None-clause-only
returns-in-None-clause-only g c =
    marks_were_read g.D.Decoder.reader g.S.DecodeSet.IsReadAsPart _ _ _ _ c.loop-count.invariant.exactly c.in_ok-tag.ensures.only

pub returns-clause-only : goal.returns-clause-only
returns-clause-only g c =
    marks_were_read g.D.Decoder.reader g.S.DecodeSet.IsReadAsPart _ _ _ _ c.loop-count.invariant.exactly c.in_ok-next_component.ensures.only
