-- The texts of operations are printable.
use Rattle.std.proofs.Common.{ℕ, ℤ, pos, Bool, true, false, List, [], ◌++◌, ◌==◌, Option, None, Some, Vec, Global, codes, length, refl}
use Rattle.std.specs.List.{flat_map}
use Rattle.std.specs.Ordering.{int_eq}
use Rattle.asn1_ldap.specs.declared.add_request.AddRequest.{AddRequest}
use Rattle.asn1_ldap.specs.declared.authentication_choice.AuthenticationChoice.{AuthenticationChoice}
use Rattle.asn1_ldap.specs.declared.authentication_choice.AuthenticationChoice.TheVariants.{Simple, Sasl}
use Rattle.asn1_ldap.specs.declared.bind_request.BindRequest.{BindRequest}
use Rattle.asn1_ldap.specs.declared.bind_response.BindResponse.{BindResponse}
use Rattle.asn1_ldap.specs.declared.compare_request.CompareRequest.{CompareRequest}
use Rattle.asn1_ldap.specs.declared.extended_request.ExtendedRequest.{ExtendedRequest}
use Rattle.asn1_ldap.specs.declared.extended_response.ExtendedResponse.{ExtendedResponse}
use Rattle.asn1_ldap.specs.declared.ldap_message_protocol_op.LdapMessageProtocolOp.{LdapMessageProtocolOp}
use Rattle.asn1_ldap.specs.declared.ldap_message_protocol_op.LdapMessageProtocolOp.TheVariants as op
use Rattle.asn1_ldap.specs.declared.ldap_result.LdapResult.{LdapResult}
use Rattle.asn1_ldap.specs.declared.ldap_result_result_code.LdapResultResultCode.{LdapResultResultCode}
use Rattle.asn1_ldap.specs.declared.ldap_result_result_code.LdapResultResultCode.TheVariants as code
use Rattle.asn1_ldap.specs.declared.modify_dn_request.ModifyDnRequest.{ModifyDnRequest}
use Rattle.asn1_ldap.specs.declared.modify_request.ModifyRequest.{ModifyRequest}
use Rattle.asn1_ldap.specs.declared.modify_request_changes_element.ModifyRequestChangesElement.{ModifyRequestChangesElement}
use Rattle.asn1_ldap.specs.declared.modify_request_changes_element_operation.ModifyRequestChangesElementOperation.{ModifyRequestChangesElementOperation}
use Rattle.asn1_ldap.specs.declared.modify_request_changes_element_operation.ModifyRequestChangesElementOperation.TheVariants.{Add, Delete, Replace, Increment}
use Rattle.asn1_ldap.specs.declared.sasl_credentials.SaslCredentials.{SaslCredentials}
use Rattle.asn1_ldap.specs.declared.search_request.SearchRequest.{SearchRequest}
use Rattle.asn1_ldap.specs.declared.search_request_deref_aliases.SearchRequestDerefAliases.{SearchRequestDerefAliases}
use Rattle.asn1_ldap.specs.declared.search_request_deref_aliases.SearchRequestDerefAliases.TheVariants.{NeverDerefAliases, DerefInSearching, DerefFindingBaseObj, DerefAlways}
use Rattle.asn1_ldap.specs.declared.search_request_scope.SearchRequestScope.{SearchRequestScope}
use Rattle.asn1_ldap.specs.declared.search_request_scope.SearchRequestScope.TheVariants.{BaseObject, SingleLevel, WholeSubtree, SubordinateSubtree}
use Rattle.asn1_ldap.specs.declared.search_result_entry.SearchResultEntry.{SearchResultEntry}
use Rattle.asn1_ldap_text.specs.Attributes.{after_comma, attribute_text}
use Rattle.asn1_ldap_text.specs.Binds.{authentication_text, bind_request_text, bind_response_text, sasl_text, version_text}
use Rattle.asn1_ldap_text.specs.Changes.{add_request_text, change_name, change_text, compare_request_text, compared_text, modify_dn_request_text, modify_request_text, new_name_text, old_rdn_text, superior_text}
use Rattle.asn1_ldap_text.specs.Extended.{extended_request_text, extended_response_text, named_value_text}
use Rattle.asn1_ldap_text.specs.Filters.{filter_text}
use Rattle.asn1_ldap_text.specs.Lengths.{optional_length}
use Rattle.asn1_ldap_text.specs.Operations.{operation_text}
use Rattle.asn1_ldap_text.specs.Results.{code_text, diagnosis_text, referral_text, response_text, result_text}
use Rattle.asn1_ldap_text.specs.Searches.{after_blank, aliases_text, base_text, entry_text, limit_text, limits_text, scope_text, search_filter_text, search_request_text, selection_text, types_only_text}
use Rattle.asn1_ldap_text.specs.Strings.{named, named_unless_empty, optional_word, quoted, word}
use Rattle.asn1_ldap_text.proofs.Printable.{Printable, both, each, either, integer_printable}
use Rattle.asn1_ldap_text.proofs.PrintableFilters.{attribute_printable, attributes_printable, filter_printable, length_printable, named_unless_empty_printable, optional_length_printable, optional_word_printable, quoted_printable, values_printable, word_printable}
use Rattle.asn1_ldap.specs.declared.attribute_value_assertion.AttributeValueAssertion.{AttributeValueAssertion}
use Rattle.asn1_values.specs.Text.{integer_text}

-- ---- results

code_printable : (c : LdapResultResultCode) → Printable (code_text c)
code_printable = elim [ code.Success ↦ refl | code.OperationsError ↦ refl | code.ProtocolError ↦ refl | code.TimeLimitExceeded ↦ refl | code.SizeLimitExceeded ↦ refl | code.CompareFalse ↦ refl | code.CompareTrue ↦ refl | code.AuthMethodNotSupported ↦ refl | code.StrongerAuthRequired ↦ refl | code.Referral ↦ refl | code.AdminLimitExceeded ↦ refl | code.UnavailableCriticalExtension ↦ refl | code.ConfidentialityRequired ↦ refl | code.SaslBindInProgress ↦ refl | code.NoSuchAttribute ↦ refl | code.UndefinedAttributeType ↦ refl | code.InappropriateMatching ↦ refl | code.ConstraintViolation ↦ refl | code.AttributeOrValueExists ↦ refl | code.InvalidAttributeSyntax ↦ refl | code.NoSuchObject ↦ refl | code.AliasProblem ↦ refl | code.InvalidDnSyntax ↦ refl | code.AliasDereferencingProblem ↦ refl | code.InappropriateAuthentication ↦ refl | code.InvalidCredentials ↦ refl | code.InsufficientAccessRights ↦ refl | code.Busy ↦ refl | code.Unavailable ↦ refl | code.UnwillingToPerform ↦ refl | code.LoopDetect ↦ refl | code.NamingViolation ↦ refl | code.ObjectClassViolation ↦ refl | code.NotAllowedOnNonLeaf ↦ refl | code.NotAllowedOnRdn ↦ refl | code.EntryAlreadyExists ↦ refl | code.ObjectClassModsProhibited ↦ refl | code.AffectsMultipleDsas ↦ refl | code.Other ↦ refl | code.LcupResourcesExhausted ↦ refl | code.LcupSecurityViolation ↦ refl | code.LcupInvalidData ↦ refl | code.LcupUnsupportedScheme ↦ refl | code.LcupReloadRequired ↦ refl | code.Canceled ↦ refl | code.NoSuchOperation ↦ refl | code.TooLate ↦ refl | code.CannotCancel ↦ refl | code.AssertionFailed ↦ refl | code.AuthorizationDenied ↦ refl | code.ESyncRefreshRequired ↦ refl | code.NoOperation ↦ refl ]

diagnosis_printable : (matched message : List ℕ) → Printable (diagnosis_text matched message)
diagnosis_printable matched message =
    both (named_unless_empty (codes ", matched ") matched) (named_unless_empty (codes ", message ") message)
    (named_unless_empty_printable (codes ", matched ") matched refl) (named_unless_empty_printable (codes ", message ") message refl)

referral_printable : (referral : Option (Vec (List ℕ) Global)) → Printable (referral_text referral)
referral_printable (Some uris) = values_printable uris.items
referral_printable None = refl

result_printable : (c : LdapResultResultCode) (matched message : List ℕ) (referral : Option (Vec (List ℕ) Global)) → Printable (result_text c matched message referral)
result_printable c matched message referral =
    both (code_text c) (diagnosis_text matched message ++ referral_text referral) (code_printable c)
    (both (diagnosis_text matched message) (referral_text referral) (diagnosis_printable matched message) (referral_printable referral))

response_printable : (label : List ℕ) (r : LdapResult) → Printable label → Printable (response_text label r)
response_printable label r h =
    both label (result_text r.result_code r.matched_dn r.diagnostic_message r.referral) h
    (result_printable r.result_code r.matched_dn r.diagnostic_message r.referral)

-- ---- binds

sasl_printable : (c : SaslCredentials) → Printable (sasl_text c)
sasl_printable c =
    both (quoted c.mechanism) (optional_length (codes ", credentials") c.credentials) (quoted_printable c.mechanism)
    (optional_length_printable (codes ", credentials") c.credentials refl)

authentication_printable : (a : AuthenticationChoice) → Printable (authentication_text a)
authentication_printable (Simple password) = length_printable (codes ", simple password") password refl
authentication_printable (Sasl credentials) = sasl_printable credentials

bind_request_printable : (r : BindRequest) → Printable (bind_request_text r)
bind_request_printable r =
    both (version_text r) (named (codes ", name ") r.name ++ authentication_text r.authentication) (integer_printable r.version)
    (both (quoted r.name) (authentication_text r.authentication) (quoted_printable r.name) (authentication_printable r.authentication))

bind_response_printable : (r : BindResponse) → Printable (bind_response_text r)
bind_response_printable r =
    both (result_text r.result_code r.matched_dn r.diagnostic_message r.referral) (optional_length (codes ", server credentials") r.server_sasl_creds)
    (result_printable r.result_code r.matched_dn r.diagnostic_message r.referral)
    (optional_length_printable (codes ", server credentials") r.server_sasl_creds refl)

-- ---- searches

scope_printable : (s : SearchRequestScope) → Printable (scope_text s)
scope_printable = elim [ BaseObject ↦ refl | SingleLevel ↦ refl | WholeSubtree ↦ refl | SubordinateSubtree ↦ refl ]

base_printable : (r : SearchRequest) → Printable (base_text r)
base_printable r = both (quoted r.base_object) (codes ", scope " ++ scope_text r.scope) (quoted_printable r.base_object) (scope_printable r.scope)

aliases_printable : (a : SearchRequestDerefAliases) → Printable (aliases_text a)
aliases_printable = elim [ NeverDerefAliases ↦ refl | DerefInSearching ↦ refl | DerefFindingBaseObj ↦ refl | DerefAlways ↦ refl ]

limit_printable : (label : List ℕ) (limit : ℤ) → Printable label → Printable (limit_text label limit)
limit_printable label limit h =
    either (int_eq limit (pos 0)) [] (label ++ integer_text limit) refl (both label (integer_text limit) h (integer_printable limit))

types_only_printable : (b : Bool) → Printable (types_only_text b)
types_only_printable true = refl
types_only_printable false = refl

limits_printable : (r : SearchRequest) → Printable (limits_text r)
limits_printable r =
    let size = limit_text (codes ", size limit ") r.size_limit in
    let time = limit_text (codes ", time limit ") r.time_limit in
    both (aliases_text r.deref_aliases) (size ++ (time ++ types_only_text r.types_only)) (aliases_printable r.deref_aliases)
    (both size (time ++ types_only_text r.types_only) (limit_printable (codes ", size limit ") r.size_limit refl)
    (both time (types_only_text r.types_only) (limit_printable (codes ", time limit ") r.time_limit refl) (types_only_printable r.types_only)))

selection_printable : (names : List (List ℕ)) → Printable (selection_text names)
selection_printable names =
    either (length names == 0) [] (codes ", attributes" ++ flat_map after_blank names) refl (each after_blank names word_printable)

search_request_printable : (r : SearchRequest) → Printable (search_request_text r)
search_request_printable r =
    both (base_text r) (limits_text r ++ (search_filter_text r.filter ++ selection_text r.attributes.items)) (base_printable r)
    (both (limits_text r) (search_filter_text r.filter ++ selection_text r.attributes.items) (limits_printable r)
    (both (filter_text r.filter) (selection_text r.attributes.items) (filter_printable r.filter) (selection_printable r.attributes.items)))

entry_printable : (e : SearchResultEntry) → Printable (entry_text e)
entry_printable e =
    both (quoted e.object_name) (flat_map after_comma e.attributes.items) (quoted_printable e.object_name) (attributes_printable e.attributes.items)

-- ---- changes

change_name_printable : (o : ModifyRequestChangesElementOperation) → Printable (change_name o)
change_name_printable = elim [ Add ↦ refl | Delete ↦ refl | Replace ↦ refl | Increment ↦ refl ]

change_printable : (c : ModifyRequestChangesElement) → Printable (change_text c)
change_printable c =
    both (change_name c.operation) (codes " " ++ attribute_text c.modification) (change_name_printable c.operation) (attribute_printable c.modification)

modify_request_printable : (r : ModifyRequest) → Printable (modify_request_text r)
modify_request_printable r =
    both (quoted r.object) (flat_map change_text r.changes.items) (quoted_printable r.object) (each change_text r.changes.items change_printable)

add_request_printable : (r : AddRequest) → Printable (add_request_text r)
add_request_printable r =
    both (quoted r.entry) (flat_map after_comma r.attributes.items) (quoted_printable r.entry) (attributes_printable r.attributes.items)

old_rdn_printable : (b : Bool) → Printable (old_rdn_text b)
old_rdn_printable true = refl
old_rdn_printable false = refl

superior_printable : (superior : Option (List ℕ)) → Printable (superior_text superior)
superior_printable (Some name) = quoted_printable name
superior_printable None = refl

modify_dn_request_printable : (r : ModifyDnRequest) → Printable (modify_dn_request_text r)
modify_dn_request_printable r =
    both (quoted r.entry) (new_name_text r) (quoted_printable r.entry)
    (both (quoted r.newrdn) (old_rdn_text r.deleteoldrdn ++ superior_text r.new_superior) (quoted_printable r.newrdn)
    (both (old_rdn_text r.deleteoldrdn) (superior_text r.new_superior) (old_rdn_printable r.deleteoldrdn) (superior_printable r.new_superior)))

compared_printable : (a : AttributeValueAssertion) → Printable (compared_text a)
compared_printable a = both (word a.attribute_desc) (named (codes " ") a.assertion_value) (word_printable a.attribute_desc) (quoted_printable a.assertion_value)

compare_request_printable : (r : CompareRequest) → Printable (compare_request_text r)
compare_request_printable r = both (quoted r.entry) (compared_text r.ava) (quoted_printable r.entry) (compared_printable r.ava)

-- ---- extended operations

named_value_printable : (name value : Option (List ℕ)) → Printable (named_value_text name value)
named_value_printable name value =
    both (optional_word (codes ", name ") name) (optional_length (codes ", value") value) (optional_word_printable (codes ", name ") name refl)
    (optional_length_printable (codes ", value") value refl)

extended_request_printable : (r : ExtendedRequest) → Printable (extended_request_text r)
extended_request_printable r =
    both (word r.request_name) (optional_length (codes ", value") r.request_value) (word_printable r.request_name)
    (optional_length_printable (codes ", value") r.request_value refl)

extended_response_printable : (r : ExtendedResponse) → Printable (extended_response_text r)
extended_response_printable r =
    both (result_text r.result_code r.matched_dn r.diagnostic_message r.referral) (named_value_text r.response_name r.response_value)
    (result_printable r.result_code r.matched_dn r.diagnostic_message r.referral) (named_value_printable r.response_name r.response_value)

-- ---- operations

pub operation_printable : (o : LdapMessageProtocolOp) → Printable (operation_text o)
operation_printable (op.BindRequest request) = bind_request_printable request
operation_printable (op.BindResponse response) = bind_response_printable response
operation_printable (op.UnbindRequest nothing) = refl
operation_printable (op.SearchRequest request) = search_request_printable request
operation_printable (op.SearchResEntry entry) = entry_printable entry
operation_printable (op.SearchResDone done) = response_printable (codes "search done: ") done.value refl
operation_printable (op.SearchResRef uris) = values_printable uris.value.items
operation_printable (op.ModifyRequest request) = modify_request_printable request
operation_printable (op.ModifyResponse response) = response_printable (codes "modify response: ") response.value refl
operation_printable (op.AddRequest request) = add_request_printable request
operation_printable (op.AddResponse response) = response_printable (codes "add response: ") response.value refl
operation_printable (op.DelRequest name) = quoted_printable name.value
operation_printable (op.DelResponse response) = response_printable (codes "delete response: ") response.value refl
operation_printable (op.ModDnRequest request) = modify_dn_request_printable request
operation_printable (op.ModDnResponse response) = response_printable (codes "modify DN response: ") response.value refl
operation_printable (op.CompareRequest request) = compare_request_printable request
operation_printable (op.CompareResponse response) = response_printable (codes "compare response: ") response.value refl
operation_printable (op.AbandonRequest number) = integer_printable number.value
operation_printable (op.ExtendedReq request) = extended_request_printable request
operation_printable (op.ExtendedResp response) = extended_response_printable response
operation_printable (op.IntermediateResponse response) = named_value_printable response.response_name response.response_value
