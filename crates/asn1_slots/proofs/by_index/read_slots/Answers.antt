use Rattle.std.proofs.Common.{◌≡◌, ◌<◌, ◌≤◌, length, refl, arith, add-one, ◌∙◌}
use Rattle.asn1_components.proofs.TableLengths.{length-table}
use Rattle.asn1_components.specs.Components.{all_components}
use Rattle.asn1_slots.proofs.Layouts.{slots_of_type}
use Rattle.asn1_slots.proofs.FilledSlots.{all_filled, kept_filled, kept_held, none_filled, one_more_filled}
use Rattle.asn1_slots.proofs.ReadByIndex.{none_yet, one_more, not_read, all_read, same_length}
use Rattle.asn1_slots.proofs.ReadExactly.{none_were_read, one_more_was_read}
use Rattle.asn1_slots.proofs.by_index.read_slots.Goals as goal

pub loop-index-init : goal.loop-index-init
loop-index-init g c = record {
  same_depth = refl;
  filled = none_filled g.C.DecodeByIndex.layout _;
  exactly = none_were_read g.D.Decoder.reader _ g.C.DecodeByIndex.layout _;
  way = λ v rest outer can of_type valid ends at. none_yet g.D.Decoder.reader (all_components g.C.FieldTable.components) g.C.DecodeByIndex.layout (slots_of_type g.C.FieldTable.components g.C.DecodeByIndex.layout c.requires.laid_out) _ v rest outer _ can of_type valid ends at;
}

pub loop-index-preserved : goal.loop-index-preserved
loop-index-preserved g c =
    let cs = all_components g.C.FieldTable.components in
    let low : c.loop-index.index < length cs = omega (arith, c.loop-index-test.true, c.loop-index.auto.index-end, c.field_count-index-end.ensures, length-table g.C.FieldTable.components) in
    record {
      same_depth = c.in-Ok.ensures.same_depth ∙ c.loop-index.invariant.same_depth;
      filled = rw add-one (one_more_filled g.D.Decoder.reader _ _ _ g.C.DecodeByIndex.layout c.loop-index.index _
          (kept_filled g.C.DecodeByIndex.layout c.loop-index.index _ _ c.in-Ok.ensures.kept c.loop-index.invariant.filled) c.in-Ok.ensures.read);
      exactly = rw add-one (one_more_was_read g.D.Decoder.reader _ _ _ _ g.C.DecodeByIndex.layout c.loop-index.index _ _
          (omega (arith, low, same_length cs g.C.DecodeByIndex.layout (slots_of_type g.C.FieldTable.components g.C.DecodeByIndex.layout c.requires.laid_out)))
          c.in-Ok.ensures.kept c.loop-index.invariant.exactly c.in-Ok.ensures.read);
      way = λ v rest outer can of_type valid ends at.
          let upto = c.loop-index.invariant.way v rest outer can of_type valid ends at in
          one_more g.D.Decoder.reader cs g.C.DecodeByIndex.layout (slots_of_type g.C.FieldTable.components g.C.DecodeByIndex.layout c.requires.laid_out) _ v rest outer _ _ _ _ _ c.loop-index.index low upto _ c.in-Ok.ensures.same_depth c.in-Ok.ensures.read (kept_held g.C.DecodeByIndex.layout c.loop-index.index _ _ v c.in-Ok.ensures.kept upto.filled);
    }

pub returns-in-Err-clause-read : goal.returns-in-Err-clause-read
returns-in-Err-clause-read g c = λ v rest outer can of_type valid ends at.
    let cs = all_components g.C.FieldTable.components in
    let low : c.loop-index.index < length cs = omega (arith, c.loop-index-test.true, c.loop-index.auto.index-end, c.field_count-index-end.ensures, length-table g.C.FieldTable.components) in
    let upto = c.loop-index.invariant.way v rest outer can of_type valid ends at in
    not_read g.D.Decoder.reader cs g.C.DecodeByIndex.layout (slots_of_type g.C.FieldTable.components g.C.DecodeByIndex.layout c.requires.laid_out) _ v rest outer _ _ _ _ _ c.loop-index.index low upto _ c.in-Err.ensures.read

pub returns-clause-read : goal.returns-clause-read
returns-clause-read g c = λ v rest outer can of_type valid ends at.
    let cs = all_components g.C.FieldTable.components in
    let end : length cs ≡ c.loop-index.index = omega (arith, c.loop-index-test.false, c.loop-index.auto.index-end, c.field_count-index-end.ensures, length-table g.C.FieldTable.components) in
    let upto = c.loop-index.invariant.way v rest outer can of_type valid ends at in
    all_read g.D.Decoder.reader cs g.C.DecodeByIndex.layout (slots_of_type g.C.FieldTable.components g.C.DecodeByIndex.layout c.requires.laid_out) _ v rest outer _ _ c.loop-index.index end upto

pub returns-clause-filled : goal.returns-clause-filled
returns-clause-filled g c =
    let layout = g.C.DecodeByIndex.layout in
    let end : length layout ≤ c.loop-index.index = omega (arith, c.loop-index-test.false, c.loop-index.auto.index-end, c.field_count-index-end.ensures, length-table g.C.FieldTable.components, same_length (all_components g.C.FieldTable.components) layout (slots_of_type g.C.FieldTable.components g.C.DecodeByIndex.layout c.requires.laid_out)) in
    all_filled layout c.loop-index.index _ end c.loop-index.invariant.filled

pub returns-clause-only : goal.returns-clause-only
returns-clause-only g c =
    let layout = g.C.DecodeByIndex.layout in
    let end : length layout ≡ c.loop-index.index = omega (arith, c.loop-index-test.false, c.loop-index.auto.index-end, c.field_count-index-end.ensures, length-table g.C.FieldTable.components, same_length (all_components g.C.FieldTable.components) layout (slots_of_type g.C.FieldTable.components g.C.DecodeByIndex.layout c.requires.laid_out)) in
    rw end c.loop-index.invariant.exactly
