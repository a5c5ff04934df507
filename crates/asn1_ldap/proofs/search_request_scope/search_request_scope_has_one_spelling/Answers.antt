-- Equal values are written alike, and in each value the components of a SET have distinct tags.
use Rattle.asn1_ldap.specs.contracts.search_request_scope.SearchRequestScopeAsnType.TheImpl.{ghosts as type}
use Rattle.asn1_model.proofs.WrittenAlike.{alike_if_one}
use Rattle.std.proofs.Common.{rules}
use Rattle.asn1_ldap.proofs.search_request_scope.search_request_scope_has_one_spelling.Goals as goal

pub returns-clause-alike : goal.returns-clause-alike
returns-clause-alike c =
    alike_if_one type.meaning (λ v w same. search rules)

pub returns-clause-distinct : goal.returns-clause-distinct
returns-clause-distinct c =
    search rules
