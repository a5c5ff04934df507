-- Equal values are written alike, and in each value the components of a SET have distinct tags.
use Rattle.asn1_ldap.specs.contracts.control.ControlAsnType.TheImpl.{ghosts as type}
use Rattle.asn1_ldap.specs.contracts.control.ControlPartialEq.TheImpl.{ghosts as equality}
use Rattle.asn1_ldap.specs.contracts.control.ControlDecodeByIndex.TheImpl.{ghosts as reader}
use Rattle.asn1_ldap.specs.contracts.control.ControlFieldTable.TheImpl.{ghosts as table}
use Rattle.asn1_slots.proofs.WrittenAlike.{type_alike}
use Rattle.asn1_slots.proofs.DistinctSets.{type_distinct}
use Rattle.asn1_schema.specs.Words.{constructed_agrees}
use Rattle.std.proofs.Common.{refl, rules, ◌≡◌}
use Rattle.asn1_model.proofs.SameUpToOrder.{SameAll-refl}
use Rattle.asn1_ldap.proofs.control.control_has_one_spelling.Goals as goal

pub returns-clause-alike : goal.returns-clause-alike
returns-clause-alike c =
    type_alike table.components reader.layout type.meaning equality.eq (λ are. are) constructed_agrees (
      (λ can v w same. (let one : v ≡ w = search rules in rw one (SameAll-refl _))),
      (
        ((λ v w same. (let one : v ≡ w = search rules in cc)), (λ can v w same. (let one : v ≡ w = search rules in rw one (SameAll-refl _)))),
        ((λ can v w same. (let one : v ≡ w = search rules in rw one (SameAll-refl _))), tt),
      ),
    )
    (λ v w. refl)

pub returns-clause-distinct : goal.returns-clause-distinct
returns-clause-distinct c =
    type_distinct table.components reader.layout type.meaning (λ are. are) constructed_agrees (
      search rules,
      (
        search rules,
        (search rules, tt),
      ),
    )
    (λ kind. cc)
