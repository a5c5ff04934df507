-- Searches (RFC 4511, 4.5).
use Rattle.std.specs.Prelude.{ℕ, ℤ, pos, Bool, ◌==◌, List, [], ◌++◌, codes, if◌then◌else◌, length}
use Rattle.std.specs.List.{flat_map}
use Rattle.std.specs.Ordering.{int_eq}
use Rattle.asn1_components.specs.Enumerations.{name_of}
use Rattle.asn1_ldap.specs.contracts.search_request_deref_aliases.SearchRequestDerefAliasesEnumeratedItems.TheImpl.{ghosts as alias_items}
use Rattle.asn1_ldap.specs.contracts.search_request_deref_aliases.SearchRequestDerefAliasesPartialEq.TheImpl.{ghosts as alias_equality}
use Rattle.asn1_ldap.specs.contracts.search_request_scope.SearchRequestScopeEnumeratedItems.TheImpl.{ghosts as scope_items}
use Rattle.asn1_ldap.specs.contracts.search_request_scope.SearchRequestScopePartialEq.TheImpl.{ghosts as scope_equality}
use Rattle.asn1_ldap.specs.declared.search_request.SearchRequest.{SearchRequest}
use Rattle.asn1_ldap.specs.declared.search_request_deref_aliases.SearchRequestDerefAliases.{SearchRequestDerefAliases}
use Rattle.asn1_ldap.specs.declared.search_request_deref_aliases.SearchRequestDerefAliases.TheVariants.{NeverDerefAliases}
use Rattle.asn1_ldap.specs.declared.search_request_scope.SearchRequestScope.{SearchRequestScope}
use Rattle.asn1_ldap.specs.declared.search_result_entry.SearchResultEntry.{SearchResultEntry}
use Rattle.asn1_ldap_text.specs.Attributes.{after_comma}
use Rattle.asn1_ldap_text.specs.Filters.{filter_text}
use Rattle.asn1_ldap_text.specs.Strings.{after_space, named, word}
use Rattle.asn1_ldap.specs.declared.filter.Filter.{Filter}
use Rattle.asn1_values.specs.Text.{integer_text}

-- the name of a scope
abbrev pub scope_text : SearchRequestScope → List ℕ
scope_text scope = name_of scope_equality.eq scope_items.enumeration scope

-- the base object and the scope
abbrev pub base_text : SearchRequest → List ℕ
base_text r = named (codes "search request: base ") r.base_object ++ (codes ", scope " ++ scope_text r.scope)

-- the name of how aliases are followed
abbrev pub aliases_name : SearchRequestDerefAliases → List ℕ
aliases_name aliases = name_of alias_equality.eq alias_items.enumeration aliases

-- how aliases are followed, if they are
abbrev pub aliases_text : SearchRequestDerefAliases → List ℕ
aliases_text aliases = if alias_equality.eq aliases NeverDerefAliases then [] else codes ", aliases " ++ aliases_name aliases

-- a limit, if there is one: 0 is none
abbrev pub limit_text : List ℕ → ℤ → List ℕ
limit_text label limit = if int_eq limit (pos 0) then [] else label ++ integer_text limit

-- whether values are left out
abbrev pub types_only_text : Bool → List ℕ
types_only_text types_only = if types_only then codes ", types only" else []

-- what a request asks for beside these
abbrev pub limits_text : SearchRequest → List ℕ
limits_text r = aliases_text r.deref_aliases ++ (limit_text (codes ", size limit ") r.size_limit ++
    (limit_text (codes ", time limit ") r.time_limit ++ types_only_text r.types_only))

-- the filter of a search
abbrev pub search_filter_text : Filter → List ℕ
search_filter_text filter = codes ", filter " ++ filter_text filter

-- a name without quotes after a space
abbrev pub after_blank : List ℕ → List ℕ
after_blank name = codes " " ++ word name

-- the attributes that are asked for
abbrev pub selected_text : List (List ℕ) → List ℕ
selected_text names = codes ", attributes" ++ flat_map after_blank names

-- the same, if any is named
abbrev pub selection_text : List (List ℕ) → List ℕ
selection_text names = if length names == 0 then [] else selected_text names

-- a request to search
abbrev pub search_request_text : SearchRequest → List ℕ
search_request_text r = base_text r ++ (limits_text r ++ (search_filter_text r.filter ++ selection_text r.attributes.items))

-- an entry that was found
abbrev pub entry_text : SearchResultEntry → List ℕ
entry_text e = named (codes "search entry: name ") e.object_name ++ flat_map after_comma e.attributes.items

-- the URIs at which the search goes on
abbrev pub reference_text : List (List ℕ) → List ℕ
reference_text uris = codes "search reference:" ++ flat_map after_space uris
