-- Equal values are written alike, and in each value the components of a SET have distinct tags.
use Rattle.asn1_x509.specs.contracts.subject_public_key_info.SubjectPublicKeyInfoAsnType.TheImpl.{ghosts as type}
use Rattle.asn1_x509.specs.contracts.subject_public_key_info.SubjectPublicKeyInfoPartialEq.TheImpl.{ghosts as equality}
use Rattle.asn1_x509.specs.contracts.subject_public_key_info.SubjectPublicKeyInfoDecodeByIndex.TheImpl.{ghosts as reader}
use Rattle.asn1_x509.specs.contracts.subject_public_key_info.SubjectPublicKeyInfoFieldTable.TheImpl.{ghosts as table}
use Rattle.asn1_slots.proofs.WrittenAlike.{type_alike}
use Rattle.asn1_slots.proofs.DistinctSets.{type_distinct}
use Rattle.asn1_schema.specs.Words.{constructed_agrees}
use Rattle.std.proofs.Common.{refl, rules, ◌≡◌}
use Rattle.asn1_model.proofs.WrittenAlike.{tagged_alike}
use Rattle.asn1_model.proofs.DistinctSets.{tagged_distinct}
use Rattle.asn1_model.proofs.SameUpToOrder.{SameAll-refl}
use Rattle.std.specs.Cmp.{booleans_Decides}
use Rattle.std.specs.Cmp.Lexicographic.{pointwise_decides}
use Rattle.asn1_x509.proofs.subject_public_key_info.subject_public_key_info_has_one_spelling.Goals as goal

pub returns-clause-alike : goal.returns-clause-alike
returns-clause-alike c =
    type_alike table.components reader.layout type.meaning equality.eq (λ are. are) constructed_agrees (
      search (tagged_alike, c.algorithm_identifier_has_one_spelling.ensures.alike),
      ((λ can v w same. (let one : v ≡ w = search (rules, pointwise_decides, booleans_Decides) in rw one (SameAll-refl _))), tt),
    )
    (λ v w. refl)

pub returns-clause-distinct : goal.returns-clause-distinct
returns-clause-distinct c =
    type_distinct table.components reader.layout type.meaning (λ are. are) constructed_agrees (
      search (tagged_distinct, c.algorithm_identifier_has_one_spelling.ensures.distinct),
      (search rules, tt),
    )
    (λ kind. cc)
