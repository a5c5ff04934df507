-- Values of the types in the circle of `Filter` are valid if those inside them are.
use Rattle.std.specs.Prelude.{ℕ, ⊤, Bool, List, get_or}
use Rattle.asn1_circles.specs.Words.{Meaning}
use Rattle.asn1_ldap.specs.Validity.{EachIsValid, if_some_all}
use Rattle.asn1_ldap.specs.FilterLists.{filter_of_meaning}
use Rattle.asn1_ldap.specs.declared.filter_of.FilterOf.{FilterOf}
use Rattle.asn1_ldap.specs.declared.filter_of.FilterOf.TheVariants.{And as filter_of-And, Or as filter_of-Or, Not as filter_of-Not, EqualityMatch as filter_of-EqualityMatch, Substrings as filter_of-Substrings, GreaterOrEqual as filter_of-GreaterOrEqual, LessOrEqual as filter_of-LessOrEqual, Present as filter_of-Present, ApproxMatch as filter_of-ApproxMatch, ExtensibleMatch as filter_of-ExtensibleMatch}
use Rattle.asn1_ldap.specs.contracts.attribute_value_assertion.AttributeValueAssertionAsnType.TheImpl.{ghosts as attribute_value_assertion_ghosts}
use Rattle.asn1_ldap.specs.declared.attribute_value_assertion.AttributeValueAssertion.{AttributeValueAssertion as attribute_value_assertion_values}
use Rattle.asn1_ldap.specs.contracts.substring_filter_substrings_element.SubstringFilterSubstringsElementAsnType.TheImpl.{ghosts as substring_filter_substrings_element_ghosts}
use Rattle.asn1_ldap.specs.declared.substring_filter_substrings_element.SubstringFilterSubstringsElement.{SubstringFilterSubstringsElement as substring_filter_substrings_element_values}
use Rattle.asn1_ldap.specs.declared.substring_filter_substrings_element.SubstringFilterSubstringsElement.TheVariants.{Initial as substring_filter_substrings_element-Initial, Any as substring_filter_substrings_element-Any, Final as substring_filter_substrings_element-Final}
use Rattle.asn1_ldap.specs.contracts.substring_filter.SubstringFilterAsnType.TheImpl.{ghosts as substring_filter_ghosts}
use Rattle.asn1_ldap.specs.declared.substring_filter.SubstringFilter.{SubstringFilter as substring_filter_values}
use Rattle.asn1_ldap.specs.contracts.matching_rule_assertion.MatchingRuleAssertionAsnType.TheImpl.{ghosts as matching_rule_assertion_ghosts}
use Rattle.asn1_ldap.specs.declared.matching_rule_assertion.MatchingRuleAssertion.{MatchingRuleAssertion as matching_rule_assertion_values}

attribute_value_assertion_is_valid : (accepts : List ℕ → Bool) (v : attribute_value_assertion_values) → attribute_value_assertion_ghosts.meaning.IsValid accepts v
attribute_value_assertion_is_valid accepts v = (tt, (tt, tt))

substring_filter_substrings_element_is_valid : (accepts : List ℕ → Bool) (v : substring_filter_substrings_element_values) → substring_filter_substrings_element_ghosts.meaning.IsValid accepts v
substring_filter_substrings_element_is_valid accepts (substring_filter_substrings_element-Initial v) = tt
substring_filter_substrings_element_is_valid accepts (substring_filter_substrings_element-Any v) = tt
substring_filter_substrings_element_is_valid accepts (substring_filter_substrings_element-Final v) = tt

substring_filter_is_valid : (accepts : List ℕ → Bool) (v : substring_filter_values) → substring_filter_ghosts.meaning.IsValid accepts v
substring_filter_is_valid accepts v = (tt, ((λ k0 d0 few0. substring_filter_substrings_element_is_valid accepts (get_or v.substrings.items k0 d0)), tt))

matching_rule_assertion_is_valid : (accepts : List ℕ → Bool) (v : matching_rule_assertion_values) → matching_rule_assertion_ghosts.meaning.IsValid accepts v
matching_rule_assertion_is_valid accepts v = (if_some_all v.matching_rule (λ _. ⊤) (λ x. tt), (if_some_all v.type_ (λ _. ⊤) (λ x. tt), (tt, ((λ _. tt), tt))))

pub filter_of_is_valid : {T : Type 0} (m : Meaning T) → EachIsValid m → (accepts : List ℕ → Bool) (v : FilterOf T) → (filter_of_meaning m).IsValid accepts v
filter_of_is_valid m each accepts (filter_of-And v) = λ k0 d0 few0. each accepts (get_or v k0 d0)
filter_of_is_valid m each accepts (filter_of-Or v) = λ k0 d0 few0. each accepts (get_or v k0 d0)
filter_of_is_valid m each accepts (filter_of-Not v) = each accepts v
filter_of_is_valid m each accepts (filter_of-EqualityMatch v) = attribute_value_assertion_is_valid accepts v
filter_of_is_valid m each accepts (filter_of-Substrings v) = substring_filter_is_valid accepts v
filter_of_is_valid m each accepts (filter_of-GreaterOrEqual v) = attribute_value_assertion_is_valid accepts v
filter_of_is_valid m each accepts (filter_of-LessOrEqual v) = attribute_value_assertion_is_valid accepts v
filter_of_is_valid m each accepts (filter_of-Present v) = tt
filter_of_is_valid m each accepts (filter_of-ApproxMatch v) = attribute_value_assertion_is_valid accepts v
filter_of_is_valid m each accepts (filter_of-ExtensibleMatch v) = matching_rule_assertion_is_valid accepts v
