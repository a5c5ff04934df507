-- Equal values are written alike, and in each value the components of a SET have distinct tags.
use Rattle.greetings.specs.contracts.greeting.GreetingAsnType.TheImpl.{ghosts as type}
use Rattle.greetings.specs.contracts.greeting.GreetingPartialEq.TheImpl.{ghosts as equality}
use Rattle.greetings.specs.contracts.greeting.GreetingDecodeByIndex.TheImpl.{ghosts as reader}
use Rattle.greetings.specs.contracts.greeting.GreetingFieldTable.TheImpl.{ghosts as table}
use Rattle.asn1_slots.proofs.WrittenAlike.{type_alike}
use Rattle.asn1_slots.proofs.DistinctSets.{type_distinct}
use Rattle.asn1_schema.specs.Words.{constructed_agrees}
use Rattle.std.proofs.Common.{refl, rules, ◌≡◌}
use Rattle.asn1_model.proofs.SameUpToOrder.{SameAll-refl}
use Rattle.asn1_model.proofs.WrittenAlike.{after_tag_alike}
use Rattle.asn1_model.proofs.DistinctSets.{after_tag_distinct}
use Rattle.greetings.proofs.greeting.greeting_has_one_spelling.Goals as goal

pub returns-clause-alike : goal.returns-clause-alike
returns-clause-alike c =
    type_alike table.components reader.layout type.meaning equality.eq (λ are. are) constructed_agrees (
      (λ can v w same. (let one : v.bytes.items ≡ w.bytes.items = search rules in rw one (SameAll-refl _))),
      (
        ((λ v w same. (let one : v ≡ w = search rules in cc)), (λ can v w same. (let one : v ≡ w = search rules in rw one (SameAll-refl _)))),
        (search (after_tag_alike, c.audience_has_one_spelling.ensures.alike), tt),
      ),
    )
    (λ v w. refl)

pub returns-clause-distinct : goal.returns-clause-distinct
returns-clause-distinct c =
    type_distinct table.components reader.layout type.meaning (λ are. are) constructed_agrees (
      search rules,
      (
        search rules,
        (search (after_tag_distinct, c.audience_has_one_spelling.ensures.distinct), tt),
      ),
    )
    (λ kind. cc)
