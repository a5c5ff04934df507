use Rattle.std.proofs.Common.{◌≡◌, ◌++◌, List}
use Rattle.std.specs.Vec.Iter.{into_iter_items}
use Rattle.asn1_model.specs.Readings.{AreElementsRead}
use Rattle.asn1_model.specs.Records.{Record}
use Rattle.asn1_samples.specs.BadgeParts.{IsReadAsBadgePart, badge_index, badge_slots}
use Rattle.asn1_samples.specs.declared.badge.BadgePart.TheVariants.{Id, Label, Figure}
use Rattle.asn1_laws.proofs.ReadingOnce.{Slot}
use Rattle.asn1_slots.specs.Slots.{HaveCome}
use Rattle.asn1_samples.proofs.badge.BadgeDecodeSet.from_fields.Given as goal

abbrev pub invariant-loop-part : goal.invariant-loop-part
invariant-loop-part l = record {
  all : l.fn.parts.items ≡ l.yielded ++ into_iter_items l.part-iterator;
  id : Slot badge_index 0 Id l.id l.yielded;
  label : Slot badge_index 1 Label l.label l.yielded;
  shape : Slot badge_index 2 Figure l.shape l.yielded;
  come : (rs : List Record) → AreElementsRead IsReadAsBadgePart l.yielded rs → HaveCome badge_slots (l.id, l.label, l.shape) rs;
}
