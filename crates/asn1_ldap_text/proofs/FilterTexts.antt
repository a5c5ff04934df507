-- The text of a filter is that of what it is made of.
use Rattle.std.proofs.Common.{◌≡◌, ℕ, List, ◌∙◌, refl}
use Rattle.std.proofs.lemmas.List.Folds.{flat_map-map}
use Rattle.asn1_ldap.specs.FilterMeaning.{in_knot}
use Rattle.asn1_ldap.specs.declared.filter.Filter.{Filter, Filter-F, out-Filter, fold_out-Filter, map-Filter}
use Rattle.asn1_ldap.specs.declared.filter_of.FilterOf.{FilterOf}
use Rattle.asn1_ldap.specs.declared.filter_of.FilterOf.TheVariants.{And, Or, Not, EqualityMatch, Substrings, GreaterOrEqual, LessOrEqual, Present, ApproxMatch, ExtensibleMatch}
use Rattle.asn1_ldap_text.specs.Filters.{content_text, filter_text}

-- the text of what a filter is made of, by the texts of the filters in it
abbrev text_by : Filter-F Filter → FilterOf Filter → List ℕ
text_by f v = content_text (λ text. text) (map-Filter Filter (List ℕ) filter_text (record f { 0 = record f.0 { value = v } })).0.value

same_texts : (f : Filter-F Filter) (v : FilterOf Filter) → text_by f v ≡ content_text filter_text v
same_texts f (And filters) = rw (flat_map-map (λ text. text) filter_text filters) refl
same_texts f (Or filters) = rw (flat_map-map (λ text. text) filter_text filters) refl
same_texts f (Not inner) = refl
same_texts f (EqualityMatch assertion) = refl
same_texts f (Substrings assertion) = refl
same_texts f (GreaterOrEqual assertion) = refl
same_texts f (LessOrEqual assertion) = refl
same_texts f (Present attribute) = refl
same_texts f (ApproxMatch assertion) = refl
same_texts f (ExtensibleMatch assertion) = refl

pub filter_text_is : (filter : Filter) → filter_text filter ≡ content_text filter_text (in_knot filter)
filter_text_is filter =
    fold_out-Filter (List ℕ) (λ f. content_text (λ text. text) f.0.value) filter ∙ same_texts (out-Filter filter) (out-Filter filter).0.value
