-- Filters (RFC 4515, section 3).
use Rattle.std.specs.Prelude.{ℕ, List, ◌++◌, codes}
use Rattle.std.specs.List.{flat_map}
use Rattle.asn1_ldap.specs.declared.filter.Filter.{Filter, fold-Filter}
use Rattle.asn1_ldap.specs.declared.filter_of.FilterOf.{FilterOf}
use Rattle.asn1_ldap.specs.declared.filter_of.FilterOf.TheVariants.{And, Or, Not, EqualityMatch, Substrings, GreaterOrEqual, LessOrEqual, Present, ApproxMatch, ExtensibleMatch}
use Rattle.asn1_ldap_text.specs.Assertions.{assertion_text, matching_rule_text, present_text, substrings_text}

-- `filter`: a `filtercomp` in parentheses, by the texts of the filters in it
abbrev pub content_text : {T : Type 0} → (T → List ℕ) → FilterOf T → List ℕ
content_text text (And filters) = codes "(&" ++ (flat_map text filters ++ codes ")")
content_text text (Or filters) = codes "(|" ++ (flat_map text filters ++ codes ")")
content_text text (Not inner) = codes "(!" ++ (text inner ++ codes ")")
content_text text (EqualityMatch assertion) = assertion_text (codes "=") assertion
content_text text (Substrings assertion) = substrings_text assertion
content_text text (GreaterOrEqual assertion) = assertion_text (codes ">=") assertion
content_text text (LessOrEqual assertion) = assertion_text (codes "<=") assertion
content_text text (Present attribute) = present_text attribute
content_text text (ApproxMatch assertion) = assertion_text (codes "~=") assertion
content_text text (ExtensibleMatch assertion) = matching_rule_text assertion

-- the same of a whole filter
abbrev pub filter_text : Filter → List ℕ
filter_text = fold-Filter (List ℕ) (λ f. content_text (λ text. text) f.0.value)
