use Rattle.std.proofs.Common.{◌≡◌, ◌≤◌, List, ◌∷◌}
use Rattle.std.specs.Prelude.{IsPermutation}
use Rattle.asn1_components.specs.ComponentLists.{EachIsOfType, EachIsValid}
use Rattle.asn1_components.specs.Components.{all_components, component_records, rows}
use Rattle.asn1_tags.specs.declared.tags.Tag.{Tag}
use Rattle.asn1_laws.specs.Reading.{Outside, records_in}
use Rattle.asn1_laws.specs.ReadingExactly.{HasReadParts}
use Rattle.asn1_model.specs.Records.{Name, Record, highest, set}
use Rattle.asn1_laws.specs.SetParts.{CanBeInSet}
use Rattle.asn1_laws.proofs.ReadingSets.{PartsRead}
use Rattle.asn1_dec.proofs.sets.read_parts.Given as goal

abbrev pub invariant-loop-count : goal.invariant-loop-count
invariant-loop-count g l =
    let cs = all_components g.S.FieldTable.components in
    record {
      kept : g.D.Decoder.reader.depth_left l.decoder ≡ g.D.Decoder.reader.depth_left l.fn.decoder;
      exactly : HasReadParts g.D.Decoder.reader l.fn.decoder l.decoder g.S.DecodeSet.IsReadAsPart l.parts.items;
      so_far : (v : _) (tag : Tag) (n : Name) (items rest : List Record) (outer : Outside) → CanBeInSet cs → EachIsOfType cs v → EachIsValid cs g.D.Decoder.reader.accepts v →
          IsPermutation items (component_records g.S.FieldTable.components v) → records_in items ≤ l.bound → g.D.Decoder.reader.remains l.fn.decoder (items, (set tag (rows g.S.FieldTable.components) n, rest) ∷ outer) →
          PartsRead g.D.Decoder.reader cs v g.S.DecodeSet.index_of (g.S.DecodeSet.is_part_of v) l.decoder l.parts.items (highest items)
          ((set tag (rows g.S.FieldTable.components) n, rest) ∷ outer) l.count l.bound;
    }
