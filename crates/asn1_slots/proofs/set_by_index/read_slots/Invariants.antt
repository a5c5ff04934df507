use Rattle.std.proofs.Common.{◌≡◌, ◌≤◌, List, ◌∷◌}
use Rattle.std.specs.Prelude.{IsPermutation}
use Rattle.asn1_components.specs.ComponentLists.{EachIsOfType, EachIsValid}
use Rattle.asn1_components.specs.Components.{all_components, component_records, rows}
use Rattle.asn1_tags.specs.declared.tags.Tag.{Tag}
use Rattle.asn1_laws.specs.Reading.{Outside, records_in}
use Rattle.asn1_laws.specs.ReadingExactly.{WasRead}
use Rattle.asn1_slots.specs.Slots.{HaveCome}
use Rattle.asn1_model.specs.Records.{Name, Record, highest, set}
use Rattle.asn1_laws.specs.SetParts.{CanBeInSet}
use Rattle.asn1_slots.proofs.ReadInSets.{SlotsRead}
use Rattle.asn1_slots.proofs.set_by_index.read_slots.Given as goal

abbrev pub invariant-loop-count : goal.invariant-loop-count
invariant-loop-count g l =
    let cs = all_components g.S.FieldTable.components in
    record {
      kept : g.D.Decoder.reader.depth_left l.decoder ≡ g.D.Decoder.reader.depth_left l.fn.decoder;
      exactly : WasRead g.D.Decoder.reader l.fn.decoder l.decoder (HaveCome g.S.DecodeSetByIndex.layout l.slots);
      so_far : (v : _) (tag : Tag) (n : Name) (items rest : List Record) (outer : Outside) → CanBeInSet cs → EachIsOfType cs v → EachIsValid cs g.D.Decoder.reader.accepts v →
          IsPermutation items (component_records g.S.FieldTable.components v) → records_in items ≤ l.bound → g.D.Decoder.reader.remains l.fn.decoder (items, (set tag (rows g.S.FieldTable.components) n, rest) ∷ outer) →
          SlotsRead g.D.Decoder.reader cs g.S.DecodeSetByIndex.layout v l.decoder l.slots (highest items)
          ((set tag (rows g.S.FieldTable.components) n, rest) ∷ outer) l.count l.bound;
    }
