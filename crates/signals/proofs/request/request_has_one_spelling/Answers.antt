-- Equal values are written alike, and in each value the components of a SET have distinct tags.
use Rattle.signals.specs.contracts.request.RequestAsnType.TheImpl.{ghosts as type}
use Rattle.signals.specs.contracts.request.RequestPartialEq.TheImpl.{ghosts as equality}
use Rattle.signals.specs.contracts.request.RequestDecodeByIndex.TheImpl.{ghosts as reader}
use Rattle.signals.specs.contracts.request.RequestFieldTable.TheImpl.{ghosts as table}
use Rattle.asn1_slots.proofs.WrittenAlike.{type_alike}
use Rattle.asn1_slots.proofs.DistinctSets.{type_distinct}
use Rattle.asn1_schema.specs.Words.{constructed_agrees}
use Rattle.std.proofs.Common.{refl}
use Rattle.asn1_model.proofs.WrittenAlike.{tagged_alike}
use Rattle.asn1_model.proofs.DistinctSets.{tagged_distinct}
use Rattle.signals.proofs.request.request_has_one_spelling.Goals as goal

pub returns-clause-alike : goal.returns-clause-alike
returns-clause-alike c =
    type_alike table.components reader.layout type.meaning equality.eq (λ are. are) constructed_agrees (search (tagged_alike, (c.equal_lists_are_written_alike.ensures c.part_has_one_spelling.ensures.alike)), tt)
    (λ v w. refl)

pub returns-clause-distinct : goal.returns-clause-distinct
returns-clause-distinct c =
    type_distinct table.components reader.layout type.meaning (λ are. are) constructed_agrees (search (tagged_distinct, (c.sets_in_lists_are_distinct.ensures c.part_has_one_spelling.ensures.distinct)), tt)
    (λ kind. cc)
