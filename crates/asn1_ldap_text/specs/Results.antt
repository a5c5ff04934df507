-- Results of operations (RFC 4511, 4.1.9).
use Rattle.std.specs.Prelude.{ℕ, List, [], ◌++◌, None, Option, Some, Vec, codes}
use Rattle.std.specs.declared.alloc.Global.{Global}
use Rattle.std.specs.List.{flat_map}
use Rattle.asn1_components.specs.Enumerations.{name_of}
use Rattle.asn1_ldap.specs.contracts.ldap_result_result_code.LdapResultResultCodeEnumeratedItems.TheImpl.{ghosts as items}
use Rattle.asn1_ldap.specs.contracts.ldap_result_result_code.LdapResultResultCodePartialEq.TheImpl.{ghosts as equality}
use Rattle.asn1_ldap.specs.declared.ldap_result.LdapResult.{LdapResult}
use Rattle.asn1_ldap.specs.declared.ldap_result_result_code.LdapResultResultCode.{LdapResultResultCode}
use Rattle.asn1_ldap_text.specs.Strings.{after_space, named_unless_empty}

-- the name of a result code
abbrev pub code_text : LdapResultResultCode → List ℕ
code_text code = name_of equality.eq items.enumeration code

-- the name that was matched, and the message for a person, unless they are empty
abbrev pub diagnosis_text : List ℕ → List ℕ → List ℕ
diagnosis_text matched message = named_unless_empty (codes ", matched ") matched ++ named_unless_empty (codes ", message ") message

-- the URIs of a referral, if there is one
abbrev pub referral_text : Option (Vec (List ℕ) Global) → List ℕ
referral_text (Some uris) = codes ", referral" ++ flat_map after_space uris.items
referral_text None = []

-- the components of a result
abbrev pub result_text : LdapResultResultCode → List ℕ → List ℕ → Option (Vec (List ℕ) Global) → List ℕ
result_text code matched message referral = code_text code ++ (diagnosis_text matched message ++ referral_text referral)

-- the name of an operation, and its result
abbrev pub response_text : List ℕ → LdapResult → List ℕ
response_text label r = label ++ result_text r.result_code r.matched_dn r.diagnostic_message r.referral
