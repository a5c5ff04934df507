-- The assertions of filters (RFC 4515, section 3).
use Rattle.std.specs.Prelude.{ℕ, Bool, false, true, List, [], ◌∷◌, ◌++◌, codes}
use Rattle.std.specs.List.{flat_map}
use Rattle.asn1_ldap_text.specs.Escapes.{escaped_text}
use Rattle.asn1_ldap_text.specs.Strings.{optional_word, word}
use Rattle.asn1_ldap_text.specs.declared.escapes.Place.TheVariants.{Assertion}
use Rattle.asn1_ldap.specs.declared.attribute_value_assertion.AttributeValueAssertion.{AttributeValueAssertion}
use Rattle.asn1_ldap.specs.declared.matching_rule_assertion.MatchingRuleAssertion.{MatchingRuleAssertion}
use Rattle.asn1_ldap.specs.declared.substring_filter_substrings_element.SubstringFilterSubstringsElement.{SubstringFilterSubstringsElement as Substring}
use Rattle.asn1_ldap.specs.declared.substring_filter_substrings_element.SubstringFilterSubstringsElement.TheVariants.{Initial, Any, Final}
use Rattle.asn1_ldap.specs.declared.substring_filter.SubstringFilter.{SubstringFilter}

-- a value, and the parenthesis that closes its assertion
abbrev pub closed_value : List ℕ → List ℕ
closed_value value = escaped_text Assertion value ++ codes ")"

-- `simple`, with its operator
abbrev pub assertion_text : List ℕ → AttributeValueAssertion → List ℕ
assertion_text operator a = codes "(" ++ (word a.attribute_desc ++ (operator ++ closed_value a.assertion_value))

-- `present`
abbrev pub present_text : List ℕ → List ℕ
present_text attribute = codes "(" ++ (word attribute ++ codes "=*)")

-- a part that is not the last, and an asterisk for the text behind it
abbrev pub open_part : List ℕ → List ℕ
open_part value = escaped_text Assertion value ++ codes "*"

-- `initial`, `any` and `final`
abbrev pub part_text : Substring → List ℕ
part_text (Initial value) = open_part value
part_text (Any value) = open_part value
part_text (Final value) = escaped_text Assertion value

-- an asterisk for the text before a part that is not at the beginning
abbrev pub lead_of : Substring → List ℕ
lead_of (Initial value) = []
lead_of (Any value) = codes "*"
lead_of (Final value) = codes "*"

-- the same of the first part
abbrev pub lead_text : List Substring → List ℕ
lead_text [] = codes "*"
lead_text (first ∷ rest) = lead_of first

-- the parts of a value, and the parenthesis that closes their assertion
abbrev pub parts_text : List Substring → List ℕ
parts_text parts = lead_text parts ++ (flat_map part_text parts ++ codes ")")

-- `substring`
abbrev pub substrings_text : SubstringFilter → List ℕ
substrings_text a = codes "(" ++ (word a.type_ ++ (codes "=" ++ parts_text a.substrings.items))

-- `dnattrs`, if the components of names are matched too
abbrev pub dn_text : Bool → List ℕ
dn_text true = codes ":dn"
dn_text false = []

-- `dnattrs` and `matchingrule`
abbrev pub rule_text : MatchingRuleAssertion → List ℕ
rule_text a = dn_text a.dn_attributes ++ optional_word (codes ":") a.matching_rule

-- `extensible`
abbrev pub matching_rule_text : MatchingRuleAssertion → List ℕ
matching_rule_text a = codes "(" ++ (optional_word [] a.type_ ++ (rule_text a ++ (codes ":=" ++ closed_value a.match_value)))
