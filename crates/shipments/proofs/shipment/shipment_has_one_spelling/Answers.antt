-- Equal values are written alike, and in each value the components of a SET have distinct tags.
use Rattle.shipments.specs.contracts.shipment.ShipmentAsnType.TheImpl.{ghosts as type}
use Rattle.shipments.specs.contracts.shipment.ShipmentPartialEq.TheImpl.{ghosts as equality}
use Rattle.shipments.specs.contracts.shipment.ShipmentDecodeByIndex.TheImpl.{ghosts as reader}
use Rattle.shipments.specs.contracts.shipment.ShipmentFieldTable.TheImpl.{ghosts as table}
use Rattle.asn1_slots.proofs.WrittenAlike.{type_alike}
use Rattle.asn1_slots.proofs.DistinctSets.{type_distinct}
use Rattle.asn1_schema.specs.Words.{constructed_agrees}
use Rattle.std.proofs.Common.{refl, rules, ◌≡◌}
use Rattle.asn1_model.proofs.SameUpToOrder.{SameAll-refl}
use Rattle.asn1_model.proofs.WrittenAlike.{tagged_alike}
use Rattle.asn1_model.proofs.DistinctSets.{tagged_distinct}
use Rattle.shipments.proofs.shipment.shipment_has_one_spelling.Goals as goal

pub returns-clause-alike : goal.returns-clause-alike
returns-clause-alike c =
    type_alike table.components reader.layout type.meaning equality.eq (λ are. are) constructed_agrees (
      (λ can v w same. (let one : v ≡ w = search rules in rw one (SameAll-refl _))),
      (
        search (tagged_alike, (c.equal_lists_are_written_alike.ensures (λ t k n can v w same. (let one : v.bytes.items ≡ w.bytes.items = search rules in rw one (SameAll-refl _))))),
        (
          (λ can v w same. (let one : v ≡ w = search rules in rw one (SameAll-refl _))),
          (
            (λ can v w same. (let one : v ≡ w = search rules in rw one (SameAll-refl _))),
            ((λ can v w same. (let one : v ≡ w = search rules in rw one (SameAll-refl _))), tt),
          ),
        ),
      ),
    )
    (λ v w. refl)

pub returns-clause-distinct : goal.returns-clause-distinct
returns-clause-distinct c =
    type_distinct table.components reader.layout type.meaning (λ are. are) constructed_agrees (
      search rules,
      (
        search (tagged_distinct, (c.sets_in_lists_are_distinct.ensures (search rules))),
        (
          search rules,
          (
            search rules,
            (search rules, tt),
          ),
        ),
      ),
    )
    (λ kind. cc)
