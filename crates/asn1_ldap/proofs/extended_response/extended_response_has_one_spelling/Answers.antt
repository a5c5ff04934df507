-- Equal values are written alike, and in each value the components of a SET have distinct tags.
use Rattle.asn1_ldap.specs.contracts.extended_response.ExtendedResponseAsnType.TheImpl.{ghosts as type}
use Rattle.asn1_ldap.specs.contracts.extended_response.ExtendedResponsePartialEq.TheImpl.{ghosts as equality}
use Rattle.asn1_ldap.specs.contracts.extended_response.ExtendedResponseDecodeByIndex.TheImpl.{ghosts as reader}
use Rattle.asn1_ldap.specs.contracts.extended_response.ExtendedResponseFieldTable.TheImpl.{ghosts as table}
use Rattle.asn1_slots.proofs.WrittenAlike.{type_alike}
use Rattle.asn1_slots.proofs.DistinctSets.{type_distinct}
use Rattle.asn1_schema.specs.Words.{constructed_agrees}
use Rattle.std.proofs.Common.{refl, rules, ◌≡◌}
use Rattle.asn1_model.proofs.WrittenAlike.{tagged_alike}
use Rattle.asn1_model.proofs.DistinctSets.{tagged_distinct}
use Rattle.asn1_model.proofs.SameUpToOrder.{SameAll-refl}
use Rattle.asn1_ldap.proofs.extended_response.extended_response_has_one_spelling.Goals as goal

pub returns-clause-alike : goal.returns-clause-alike
returns-clause-alike c =
    type_alike table.components reader.layout type.meaning equality.eq (λ are. are) constructed_agrees (
      search (tagged_alike, c.ldap_result_result_code_has_one_spelling.ensures.alike),
      (
        (λ can v w same. (let one : v ≡ w = search rules in rw one (SameAll-refl _))),
        (
          (λ can v w same. (let one : v ≡ w = search rules in rw one (SameAll-refl _))),
          (
            search (tagged_alike, (c.equal_lists_are_written_alike.ensures (λ t c n can v w same. (let one : v ≡ w = search rules in rw one (SameAll-refl _))))),
            (
              (λ can v w same. (let one : v ≡ w = search rules in rw one (SameAll-refl _))),
              ((λ can v w same. (let one : v ≡ w = search rules in rw one (SameAll-refl _))), tt),
            ),
          ),
        ),
      ),
    )
    (λ v w. refl)

pub returns-clause-distinct : goal.returns-clause-distinct
returns-clause-distinct c =
    type_distinct table.components reader.layout type.meaning (λ are. are) constructed_agrees (
      search (tagged_distinct, c.ldap_result_result_code_has_one_spelling.ensures.distinct),
      (
        search rules,
        (
          search rules,
          (
            search (tagged_distinct, (c.sets_in_lists_are_distinct.ensures (search rules))),
            (
              search rules,
              (search rules, tt),
            ),
          ),
        ),
      ),
    )
    (λ kind. cc)
