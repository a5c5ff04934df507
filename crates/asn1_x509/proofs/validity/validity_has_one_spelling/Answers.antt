-- Equal values are written alike, and in each value the components of a SET have distinct tags.
use Rattle.asn1_x509.specs.contracts.validity.ValidityAsnType.TheImpl.{ghosts as type}
use Rattle.asn1_x509.specs.contracts.validity.ValidityPartialEq.TheImpl.{ghosts as equality}
use Rattle.asn1_x509.specs.contracts.validity.ValidityDecodeByIndex.TheImpl.{ghosts as reader}
use Rattle.asn1_x509.specs.contracts.validity.ValidityFieldTable.TheImpl.{ghosts as table}
use Rattle.asn1_slots.proofs.WrittenAlike.{type_alike}
use Rattle.asn1_slots.proofs.DistinctSets.{type_distinct}
use Rattle.asn1_schema.specs.Words.{constructed_agrees}
use Rattle.std.proofs.Common.{refl}
use Rattle.asn1_model.proofs.WrittenAlike.{tagged_alike}
use Rattle.asn1_model.proofs.DistinctSets.{tagged_distinct}
use Rattle.asn1_x509.proofs.validity.validity_has_one_spelling.Goals as goal

pub returns-clause-alike : goal.returns-clause-alike
returns-clause-alike c =
    type_alike table.components reader.layout type.meaning equality.eq (λ are. are) constructed_agrees (
      search (tagged_alike, c.time_has_one_spelling.ensures.alike),
      (search (tagged_alike, c.time_has_one_spelling.ensures.alike), tt),
    )
    (λ v w. refl)

pub returns-clause-distinct : goal.returns-clause-distinct
returns-clause-distinct c =
    type_distinct table.components reader.layout type.meaning (λ are. are) constructed_agrees (
      search (tagged_distinct, c.time_has_one_spelling.ensures.distinct),
      (search (tagged_distinct, c.time_has_one_spelling.ensures.distinct), tt),
    )
    (λ kind. cc)
