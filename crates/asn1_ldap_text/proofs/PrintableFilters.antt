-- The texts of strings, attributes and filters are printable.
use Rattle.std.proofs.Common.{ℕ, Bool, true, false, List, [], ◌∷◌, ◌++◌, ◌==◌, Option, None, Some, codes, length, map, refl, subst, sym}
use Rattle.std.specs.Fmt.{decimal}
use Rattle.std.specs.List.{AllPass, flat_map}
use Rattle.std.proofs.lemmas.List.Sums.{AllPass-from_list_all}
use Rattle.asn1_ldap.specs.declared.partial_attribute.PartialAttribute.{PartialAttribute}
use Rattle.asn1_ldap_text.specs.Assertions.{assertion_text, closed_value, dn_text, lead_of, lead_text, matching_rule_text, open_part, part_text, parts_text, present_text, rule_text, substrings_text}
use Rattle.asn1_ldap_text.specs.Attributes.{after_comma, attribute_text}
use Rattle.asn1_ldap_text.specs.Escapes.{escaped_text, is_printable}
use Rattle.asn1_ldap_text.specs.Filters.{content_text, filter_text}
use Rattle.asn1_ldap_text.specs.Lengths.{length_text, optional_length}
use Rattle.asn1_ldap_text.specs.Strings.{after_space, named, named_unless_empty, optional_word, quoted, word}
use Rattle.asn1_ldap_text.specs.declared.escapes.Place.TheVariants.{Assertion, Quotes, Word}
use Rattle.asn1_ldap_text.proofs.Printable.{Printable, both, decimal_printable, each, either, escaped_printable}
use Rattle.asn1_ldap.specs.declared.attribute_value_assertion.AttributeValueAssertion.{AttributeValueAssertion}
use Rattle.asn1_ldap.specs.declared.filter.Filter.{Filter, Filter-F, fold-roll-Filter, ind-Filter, map-Filter}
use Rattle.asn1_ldap.specs.declared.filter_of.FilterOf.{FilterOf}
use Rattle.asn1_ldap.specs.declared.filter_of.FilterOf.TheVariants.{And, Or, Not, EqualityMatch, Substrings, GreaterOrEqual, LessOrEqual, Present, ApproxMatch, ExtensibleMatch}
use Rattle.asn1_ldap.specs.declared.matching_rule_assertion.MatchingRuleAssertion.{MatchingRuleAssertion}
use Rattle.asn1_ldap.specs.declared.substring_filter_substrings_element.SubstringFilterSubstringsElement.{SubstringFilterSubstringsElement as Substring}
use Rattle.asn1_ldap.specs.declared.substring_filter_substrings_element.SubstringFilterSubstringsElement.TheVariants.{Initial, Any, Final}
use Rattle.asn1_ldap.specs.declared.substring_filter.SubstringFilter.{SubstringFilter}

-- ---- strings

pub quoted_printable : (octets : List ℕ) → Printable (quoted octets)
quoted_printable octets = both (escaped_text Quotes octets) (codes "\"") (escaped_printable Quotes octets) refl

pub word_printable : (octets : List ℕ) → Printable (word octets)
word_printable octets = escaped_printable Word octets

pub named_printable : (label octets : List ℕ) → Printable label → Printable (named label octets)
named_printable label octets h = both label (quoted octets) h (quoted_printable octets)

pub values_printable : (values : List (List ℕ)) → Printable (flat_map after_space values)
values_printable values = each after_space values quoted_printable

pub named_unless_empty_printable : (label octets : List ℕ) → Printable label → Printable (named_unless_empty label octets)
named_unless_empty_printable label octets h = either (length octets == 0) [] (named label octets) refl (named_printable label octets h)

pub optional_word_printable : (label : List ℕ) (name : Option (List ℕ)) → Printable label → Printable (optional_word label name)
optional_word_printable label (Some name) h = both label (word name) h (word_printable name)
optional_word_printable label None h = refl

pub length_printable : (label octets : List ℕ) → Printable label → Printable (length_text label octets)
length_printable label octets h = both label (codes " of length " ++ decimal (length octets)) h (decimal_printable (length octets))

pub optional_length_printable : (label : List ℕ) (value : Option (List ℕ)) → Printable label → Printable (optional_length label value)
optional_length_printable label (Some octets) h = length_printable label octets h
optional_length_printable label None h = refl

-- ---- attributes

pub attribute_printable : (a : PartialAttribute) → Printable (attribute_text a)
attribute_printable a = both (word a.type_) (flat_map after_space a.vals) (word_printable a.type_) (values_printable a.vals)

pub attributes_printable : (attributes : List PartialAttribute) → Printable (flat_map after_comma attributes)
attributes_printable attributes = each after_comma attributes attribute_printable

-- ---- filters

closed_printable : (value : List ℕ) → Printable (closed_value value)
closed_printable value = both (escaped_text Assertion value) (codes ")") (escaped_printable Assertion value) refl

assertion_printable : (operator : List ℕ) (a : AttributeValueAssertion) → Printable operator → Printable (assertion_text operator a)
assertion_printable operator a h =
    both (word a.attribute_desc) (operator ++ closed_value a.assertion_value) (word_printable a.attribute_desc)
    (both operator (closed_value a.assertion_value) h (closed_printable a.assertion_value))

present_printable : (attribute : List ℕ) → Printable (present_text attribute)
present_printable attribute = both (word attribute) (codes "=*)") (word_printable attribute) refl

open_printable : (value : List ℕ) → Printable (open_part value)
open_printable value = both (escaped_text Assertion value) (codes "*") (escaped_printable Assertion value) refl

part_printable : (part : Substring) → Printable (part_text part)
part_printable (Initial value) = open_printable value
part_printable (Any value) = open_printable value
part_printable (Final value) = escaped_printable Assertion value

lead_of_printable : (part : Substring) → Printable (lead_of part)
lead_of_printable (Initial value) = refl
lead_of_printable (Any value) = refl
lead_of_printable (Final value) = refl

lead_printable : (parts : List Substring) → Printable (lead_text parts)
lead_printable [] = refl
lead_printable (first ∷ rest) = lead_of_printable first

parts_printable : (parts : List Substring) → Printable (parts_text parts)
parts_printable parts =
    both (lead_text parts) (flat_map part_text parts ++ codes ")") (lead_printable parts)
    (both (flat_map part_text parts) (codes ")") (each part_text parts part_printable) refl)

substrings_printable : (a : SubstringFilter) → Printable (substrings_text a)
substrings_printable a =
    both (word a.type_) (codes "=" ++ parts_text a.substrings.items) (word_printable a.type_) (parts_printable a.substrings.items)

dn_printable : (b : Bool) → Printable (dn_text b)
dn_printable true = refl
dn_printable false = refl

rule_printable : (a : MatchingRuleAssertion) → Printable (rule_text a)
rule_printable a =
    both (dn_text a.dn_attributes) (optional_word (codes ":") a.matching_rule) (dn_printable a.dn_attributes)
    (optional_word_printable (codes ":") a.matching_rule refl)

matching_rule_printable : (a : MatchingRuleAssertion) → Printable (matching_rule_text a)
matching_rule_printable a =
    both (optional_word [] a.type_) (rule_text a ++ (codes ":=" ++ closed_value a.match_value)) (optional_word_printable [] a.type_ refl)
    (both (rule_text a) (codes ":=" ++ closed_value a.match_value) (rule_printable a) (closed_printable a.match_value))

-- a filter with a printable text
abbrev PrintableFilter : Type 0
PrintableFilter = (filter : Filter) × Printable (filter_text filter)

-- the texts of such filters, one after another
abbrev all_texts : List PrintableFilter → List ℕ
all_texts filters = flat_map (λ text. text) (map filter_text (map (λ inner. inner.0) filters))

texts_printable : (filters : List PrintableFilter) → Printable (all_texts filters)
texts_printable [] = refl
texts_printable (filter ∷ rest) = both (filter_text filter.0) (all_texts rest) filter.1 (texts_printable rest)

-- the text of what a filter is made of, of such filters
abbrev text_of : Filter-F PrintableFilter → FilterOf PrintableFilter → List ℕ
text_of f content = content_text (λ text. text) (map-Filter Filter (List ℕ) filter_text
    (map-Filter PrintableFilter Filter (λ inner. inner.0) (record f { 0 = record f.0 { value = content } }))).0.value

content_printable : (f : Filter-F PrintableFilter) (content : FilterOf PrintableFilter) → Printable (text_of f content)
content_printable f (And filters) = both (all_texts filters) (codes ")") (texts_printable filters) refl
content_printable f (Or filters) = both (all_texts filters) (codes ")") (texts_printable filters) refl
content_printable f (Not inner) = both (filter_text inner.0) (codes ")") inner.1 refl
content_printable f (EqualityMatch assertion) = assertion_printable (codes "=") assertion refl
content_printable f (Substrings assertion) = substrings_printable assertion
content_printable f (GreaterOrEqual assertion) = assertion_printable (codes ">=") assertion refl
content_printable f (LessOrEqual assertion) = assertion_printable (codes "<=") assertion refl
content_printable f (Present attribute) = present_printable attribute
content_printable f (ApproxMatch assertion) = assertion_printable (codes "~=") assertion refl
content_printable f (ExtensibleMatch assertion) = matching_rule_printable assertion

pub filter_printable : (filter : Filter) → Printable (filter_text filter)
filter_printable = ind-Filter (λ filter. Printable (filter_text filter)) (λ x y is.
    subst Printable (sym (fold-roll-Filter (List ℕ) (λ f. content_text (λ text. text) f.0.value) x))
    (subst (λ z. Printable (content_text (λ text. text) (map-Filter Filter (List ℕ) filter_text z).0.value)) is
    (content_printable y y.0.value)))

-- each character of a filter's text passes the test
pub filter_passes : (filter : Filter) → AllPass is_printable (filter_text filter)
filter_passes filter = AllPass-from_list_all is_printable (filter_text filter) (filter_printable filter)
