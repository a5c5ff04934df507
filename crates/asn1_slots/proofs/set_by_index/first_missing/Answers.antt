use Rattle.std.proofs.Common.{◌≤◌, add-one, arith, length, sym}
use Rattle.asn1_components.proofs.TableLengths.{length-table}
use Rattle.asn1_components.specs.Components.{all_components}
use Rattle.asn1_slots.proofs.Layouts.{slots_of_type}
use Rattle.asn1_slots.proofs.FilledSlots.{all_filled, first_is, none_filled, none_missing, not_missing}
use Rattle.asn1_slots.proofs.ReadByIndex.{same_length}
use Rattle.asn1_slots.proofs.set_by_index.first_missing.Goals as goal

pub loop-index-init : goal.loop-index-init
loop-index-init g c = none_filled _ _

pub loop-index-preserved : goal.loop-index-preserved
loop-index-preserved g c = rw add-one (not_missing g.S.DecodeSetByIndex.layout c.loop-index.index _ c.loop-index.invariant (sym c.in-None.ensures.missing))

pub returns-in-Some : goal.returns-in-Some
returns-in-Some g c = record { first = sym (first_is g.S.DecodeSetByIndex.layout c.loop-index.index _ _ c.loop-index.invariant (sym c.in-Some.ensures.missing)) }

pub returns : goal.returns
returns g c =
    let layout = g.S.DecodeSetByIndex.layout in
    let end : length layout ≤ c.loop-index.index = omega (arith, c.loop-index-test.false, c.loop-index.auto.index-end, c.field_count-index-end.ensures, length-table g.S.FieldTable.components, same_length (all_components g.S.FieldTable.components) layout (slots_of_type g.S.FieldTable.components g.S.DecodeSetByIndex.layout c.requires.laid_out)) in
    record { first = sym (none_missing layout _ (all_filled layout c.loop-index.index _ end c.loop-index.invariant)) }
