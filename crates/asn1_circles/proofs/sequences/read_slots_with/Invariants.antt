use Rattle.std.proofs.Common.{◌≡◌, List, ◌++◌}
use Rattle.asn1_components.specs.ComponentLists.{CanBeInSequence, EachIsOfType, EachIsValid, all_records}
use Rattle.asn1_components.specs.Components.{all_components}
use Rattle.asn1_components.specs.Following.{EndsApart}
use Rattle.asn1_laws.specs.Reading.{Outside}
use Rattle.asn1_laws.specs.ReadingExactly.{WasRead}
use Rattle.asn1_model.specs.Records.{Record}
use Rattle.asn1_slots.proofs.ReadByIndex.{ReadUpTo}
use Rattle.asn1_slots.proofs.FilledSlots.{AreFilledBefore}
use Rattle.asn1_slots.specs.Slots.{AreReadBefore}
use Rattle.asn1_circles.proofs.sequences.read_slots_with.Given as goal

abbrev pub invariant-loop-index : goal.invariant-loop-index
invariant-loop-index g l =
    let R = g.D.Decoder.reader in
    let cs = all_components g.C.FieldTable.components in
    record {
      same_depth : R.depth_left l.decoder ≡ R.depth_left l.fn.decoder;
      filled : AreFilledBefore g.C.DecodeByIndexWith.layout l.index l.slots;
      way : (v : _) (rest : List Record) (outer : Outside) → CanBeInSequence cs → EachIsOfType cs v → EachIsValid cs R.accepts v → EndsApart cs rest →
          R.remains l.fn.decoder (all_records cs v ++ rest, outer) →
          ReadUpTo R cs g.C.DecodeByIndexWith.layout l.index l.fn.decoder l.decoder l.slots v rest outer;
      exactly : WasRead R l.fn.decoder l.decoder (AreReadBefore g.C.DecodeByIndexWith.layout l.index l.slots);
    }
