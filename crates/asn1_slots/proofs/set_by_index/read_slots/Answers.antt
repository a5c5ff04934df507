use Rattle.std.proofs.Common.{◌∷◌, refl, arith}
use Rattle.std.proofs.lemmas.Result.{err_from_is_err_and}
use Rattle.asn1_components.specs.Components.{all_components, rows}
use Rattle.asn1_components.proofs.DistinctFollowers.{set_apart}
use Rattle.asn1_model.specs.Records.{set}
use Rattle.asn1_laws.proofs.ReadingSteps.{fails_below}
use Rattle.asn1_laws.proofs.SetRecords.{records}
use Rattle.asn1_slots.proofs.Layouts.{slots_of_type}
use Rattle.asn1_slots.proofs.ReadInSets.{as_many_as_can, begin, comes_next, next_not_told, none_is_left, one_begins, one_further, reads, same_failure}
use Rattle.asn1_slots.proofs.ComingExactly.{marks_came, none_came, one_more_came}
use Rattle.asn1_slots.proofs.FilledGroups.{index_within}
use Rattle.asn1_slots.proofs.set_by_index.read_slots.Goals as goal

pub loop-count-init : goal.loop-count-init
loop-count-init g c = record {
  kept = refl;
  exactly = none_came g.S.DecodeSetByIndex.layout c.requires.can_be_read g.D.Decoder.reader _ _ (c.requires.empty_at_first _ c.default-slots.ensures);
  so_far = λ v tag n items rest outer can of_type valid moved few at.
      begin g.D.Decoder.reader (all_components g.S.FieldTable.components) g.S.DecodeSetByIndex.layout v (slots_of_type g.S.FieldTable.components g.S.DecodeSetByIndex.layout c.requires.laid_out) c.requires.can_be_read can.0
      c.args.decoder.now _ items ((set tag (rows g.S.FieldTable.components) n, rest) ∷ outer) c.args.bound (c.requires.empty_at_first _ c.default-slots.ensures) moved few at;
}

pub loop-count-preserved : goal.loop-count-preserved
loop-count-preserved g c = record {
  kept = omega (arith, c.loop-count.invariant.kept, c.in_ok-tag.ensures.opens_nothing.keeps_depth.same_depth, c.in-Ok.ensures.same_depth);
  exactly = one_more_came g.S.DecodeSetByIndex.layout c.requires.can_be_read g.D.Decoder.reader _ _ _ _ _ c.in-Some-component_with_tag.index _ _
      (index_within g.S.DecodeSetByIndex.layout (all_components g.S.FieldTable.components) (slots_of_type g.S.FieldTable.components g.S.DecodeSetByIndex.layout c.requires.laid_out) _ _ c.in-Some-component_with_tag.ensures) c.in-Ok.ensures.kept
      (marks_came g.S.DecodeSetByIndex.layout g.D.Decoder.reader _ _ _ _ c.loop-count.invariant.exactly c.in_ok-tag.ensures.only) c.in-Ok.ensures.read;
  so_far = λ v tag n items rest outer can of_type valid moved few at.
      let R = g.D.Decoder.reader in
      let cs = all_components g.S.FieldTable.components in
      let m = c.loop-count.invariant.so_far v tag n items rest outer can of_type valid moved few at in
      let a = comes_next R cs g.S.DecodeSetByIndex.layout v (slots_of_type g.S.FieldTable.components g.S.DecodeSetByIndex.layout c.requires.laid_out) c.requires.can_be_read can.0 c.next_component.new.self c.in-Some.tag c.in-Some-component_with_tag.index m (set_apart cs can.1.0) c.in-Some-component_with_tag.ensures
      (rw c.in-Some.is at (c.in_ok-tag.ensures.read tag n can (records m.so_far.todo) rest outer)) c.in_ok-tag.ensures.opens_nothing.keeps_depth.same_depth in
      let r = reads R cs g.S.DecodeSetByIndex.layout v (slots_of_type g.S.FieldTable.components g.S.DecodeSetByIndex.layout c.requires.laid_out) c.requires.can_be_read can.0 c.decode_field.new.decoder c.decode_field.new.slots _ a can.1.1 of_type valid c.in-Ok.ensures.read c.in-Ok.ensures.kept a.next.at in
      one_further R cs g.S.DecodeSetByIndex.layout v (slots_of_type g.S.FieldTable.components g.S.DecodeSetByIndex.layout c.requires.laid_out) c.requires.can_be_read can.0 c.decode_field.new.decoder c.decode_field.new.slots a r c.in-Ok.ensures.same_depth;
}

pub returns-in_err-tag-clause-read : goal.returns-in_err-tag-clause-read
returns-in_err-tag-clause-read g c = λ v tag n items rest outer can of_type valid moved few at.
    let p = err_from_is_err_and c.from_residual.result c.from_residual.ensures.1 in
    let m = c.loop-count.invariant.so_far v tag n items rest outer can of_type valid moved few at in
    rw (p.1, p.2) (next_not_told g.D.Decoder.reader (all_components g.S.FieldTable.components) g.S.DecodeSetByIndex.layout v (slots_of_type g.S.FieldTable.components g.S.DecodeSetByIndex.layout c.requires.laid_out) c.requires.can_be_read can.0 c.next_component.new.self _ _ m (c.in_err-tag.ensures.read tag n can (records m.so_far.todo) rest outer))

pub returns-in-None-clause-read : goal.returns-in-None-clause-read
returns-in-None-clause-read g c = λ v tag n items rest outer can of_type valid moved few at.
    let m = c.loop-count.invariant.so_far v tag n items rest outer can of_type valid moved few at in
    let t = none_is_left g.D.Decoder.reader (all_components g.S.FieldTable.components) g.S.DecodeSetByIndex.layout v (slots_of_type g.S.FieldTable.components g.S.DecodeSetByIndex.layout c.requires.laid_out) c.requires.can_be_read can.0 c.next_component.new.self m valid (rw c.in-None.is at (c.in_ok-tag.ensures.read tag n can (records m.so_far.todo) rest outer)) c.in_ok-tag.ensures.opens_nothing.keeps_depth.same_depth in
    record { answer = t.answer; at = t.at; within_depth_left = omega (arith, t.within_depth_left, c.loop-count.invariant.kept, c.in_ok-tag.ensures.opens_nothing.keeps_depth.same_depth) }

pub returns-in-None-component_with_tag-clause-read : goal.returns-in-None-component_with_tag-clause-read
returns-in-None-component_with_tag-clause-read g c = λ v tag n items rest outer can of_type valid moved few at.
    let cs = all_components g.S.FieldTable.components in
    let m = c.loop-count.invariant.so_far v tag n items rest outer can of_type valid moved few at in
    one_begins g.D.Decoder.reader cs g.S.DecodeSetByIndex.layout v (slots_of_type g.S.FieldTable.components g.S.DecodeSetByIndex.layout c.requires.laid_out) c.requires.can_be_read can.0 c.next_component.new.self c.in-Some.tag m c.in-None-component_with_tag.ensures
    (rw c.in-Some.is at (c.in_ok-tag.ensures.read tag n can (records m.so_far.todo) rest outer)) c.in_ok-tag.ensures.opens_nothing.keeps_depth.same_depth

pub returns-in-Err-clause-read : goal.returns-in-Err-clause-read
returns-in-Err-clause-read g c = λ v tag n items rest outer can of_type valid moved few at.
    let R = g.D.Decoder.reader in
    let cs = all_components g.S.FieldTable.components in
    let m = c.loop-count.invariant.so_far v tag n items rest outer can of_type valid moved few at in
    let a = comes_next R cs g.S.DecodeSetByIndex.layout v (slots_of_type g.S.FieldTable.components g.S.DecodeSetByIndex.layout c.requires.laid_out) c.requires.can_be_read can.0 c.next_component.new.self c.in-Some.tag c.in-Some-component_with_tag.index m (set_apart cs can.1.0) c.in-Some-component_with_tag.ensures
    (rw c.in-Some.is at (c.in_ok-tag.ensures.read tag n can (records m.so_far.todo) rest outer)) c.in_ok-tag.ensures.opens_nothing.keeps_depth.same_depth in
    let r = reads R cs g.S.DecodeSetByIndex.layout v (slots_of_type g.S.FieldTable.components g.S.DecodeSetByIndex.layout c.requires.laid_out) c.requires.can_be_read can.0 c.decode_field.new.decoder c.decode_field.new.slots _ a can.1.1 of_type valid c.in-Err.ensures.read c.in-Err.ensures.kept a.next.at in
    same_failure c.refuse_component.ensures.memory c.refuse_component.ensures.depth
    (fails_below _ _ _ (omega (arith, c.loop-count.invariant.kept, c.in_ok-tag.ensures.opens_nothing.keeps_depth.same_depth)) (omega (arith, a.next.no_deeper)) r)

pub returns-in_err-next_component-clause-read : goal.returns-in_err-next_component-clause-read
returns-in_err-next_component-clause-read g c = λ v tag n items rest outer can of_type valid moved few at.
    let p = err_from_is_err_and c.from_residual-in_err-next_component.result c.from_residual-in_err-next_component.ensures.1 in
    let m = c.loop-count.invariant.so_far v tag n items rest outer can of_type valid moved few at in
    rw (p.1, p.2) (next_not_told g.D.Decoder.reader (all_components g.S.FieldTable.components) g.S.DecodeSetByIndex.layout v (slots_of_type g.S.FieldTable.components g.S.DecodeSetByIndex.layout c.requires.laid_out) c.requires.can_be_read can.0 c.next_component-2.new.self _ _ m (c.in_err-next_component.ensures.read tag n can (records m.so_far.todo) rest outer))

pub returns-clause-read : goal.returns-clause-read
returns-clause-read g c = λ v tag n items rest outer can of_type valid moved few at.
    let m = c.loop-count.invariant.so_far v tag n items rest outer can of_type valid moved few at in
    let t = as_many_as_can g.D.Decoder.reader (all_components g.S.FieldTable.components) g.S.DecodeSetByIndex.layout v (slots_of_type g.S.FieldTable.components g.S.DecodeSetByIndex.layout c.requires.laid_out) c.requires.can_be_read can.0 c.next_component-2.new.self c.in_ok-next_component.field-0 m valid (omega (arith, c.loop-count-test.false)) (c.in_ok-next_component.ensures.read tag n can (records m.so_far.todo) rest outer) c.in_ok-next_component.ensures.opens_nothing.keeps_depth.same_depth in
    record { answer = t.answer; at = t.at; within_depth_left = omega (arith, t.within_depth_left, c.loop-count.invariant.kept, c.in_ok-next_component.ensures.opens_nothing.keeps_depth.same_depth) }

pub returns-in-None-clause-only : goal.returns-in-None-clause-only
returns-in-None-clause-only g c = marks_came g.S.DecodeSetByIndex.layout g.D.Decoder.reader _ _ _ _ c.loop-count.invariant.exactly c.in_ok-tag.ensures.only

pub returns-clause-only : goal.returns-clause-only
returns-clause-only g c = marks_came g.S.DecodeSetByIndex.layout g.D.Decoder.reader _ _ _ _ c.loop-count.invariant.exactly c.in_ok-next_component.ensures.only
