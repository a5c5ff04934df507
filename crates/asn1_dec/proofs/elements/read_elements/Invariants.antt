use Rattle.std.proofs.Common.{◌≡◌, List, ◌∷◌, length}
use Rattle.std.specs.List.{flat_map, All}
use Rattle.asn1_model.specs.Meaning.{IsWellTagged, own_records}
use Rattle.asn1_model.specs.Records.{Head, Record}
use Rattle.asn1_laws.specs.Reading.{Outside}
use Rattle.asn1_laws.specs.ReadingExactly.{HasReadElements}
use Rattle.asn1_laws.proofs.ReadingElements.{ElementsRead}
use Rattle.asn1_dec.proofs.elements.read_elements.Given as goal

abbrev pub invariant-loop-index : goal.invariant-loop-index
invariant-loop-index g l = record {
  kept : g.D.Decoder.reader.depth_left l.decoder ≡ g.D.Decoder.reader.depth_left l.fn.decoder;
  count : length l.elements.items ≡ l._index;
  exactly : HasReadElements g.D.Decoder.reader l.fn.decoder l.decoder g.T.AsnType.meaning l.elements.items;
  so_far : (vs : List _) (scope : Head × List Record) (outer : Outside) → IsWellTagged g.T.AsnType.meaning → All g.T.AsnType.meaning.IsOfType vs → All (g.T.AsnType.meaning.IsValid g.D.Decoder.reader.accepts) vs →
      g.D.Decoder.reader.remains l.fn.decoder (flat_map (own_records g.T.AsnType.meaning) vs, scope ∷ outer) →
      ElementsRead g.D.Decoder.reader g.T.AsnType.meaning g.T.PartialEq.eq l.decoder l.elements.items vs (scope ∷ outer);
}
