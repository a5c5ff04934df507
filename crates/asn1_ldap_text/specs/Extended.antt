-- Extended operations and intermediate responses (RFC 4511, 4.12 and 4.13).
use Rattle.std.specs.Prelude.{ℕ, List, ◌++◌, Option, codes}
use Rattle.asn1_ldap.specs.declared.extended_request.ExtendedRequest.{ExtendedRequest}
use Rattle.asn1_ldap.specs.declared.extended_response.ExtendedResponse.{ExtendedResponse}
use Rattle.asn1_ldap.specs.declared.intermediate_response.IntermediateResponse.{IntermediateResponse}
use Rattle.asn1_ldap_text.specs.Lengths.{optional_length}
use Rattle.asn1_ldap_text.specs.Results.{result_text}
use Rattle.asn1_ldap_text.specs.Strings.{optional_word, word}

-- the name and the length of a value, each if it is there
abbrev pub named_value_text : Option (List ℕ) → Option (List ℕ) → List ℕ
named_value_text name value = optional_word (codes ", name ") name ++ optional_length (codes ", value") value

-- a request
abbrev pub extended_request_text : ExtendedRequest → List ℕ
extended_request_text r = codes "extended request: " ++ (word r.request_name ++ optional_length (codes ", value") r.request_value)

-- a response to it
abbrev pub extended_response_text : ExtendedResponse → List ℕ
extended_response_text r = codes "extended response: " ++
    (result_text r.result_code r.matched_dn r.diagnostic_message r.referral ++ named_value_text r.response_name r.response_value)

-- an intermediate response
abbrev pub intermediate_response_text : IntermediateResponse → List ℕ
intermediate_response_text r = codes "intermediate response" ++ named_value_text r.response_name r.response_value
