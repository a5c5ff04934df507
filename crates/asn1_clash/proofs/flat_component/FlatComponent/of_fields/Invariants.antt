use Rattle.std.proofs.Common.{◌≡◌, map, take}
use Rattle.asn1_fields.specs.FieldViews.{components}
use Rattle.asn1_clash.specs.Flat.{flat_component}
use Rattle.asn1_clash.specs.Views.{components_view}
use Rattle.asn1_clash.proofs.flat_component.FlatComponent.of_fields.Given as goal

abbrev pub invariant-loop-field : goal.invariant-loop-field
invariant-loop-field l = components_view l.all.items ≡ map flat_component (components (take l.field-index l.fields))
