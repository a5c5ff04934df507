-- The operation of a message (RFC 4511, 4.1.1).
use Rattle.std.specs.Prelude.{ℕ, ℤ, List, ◌++◌, codes}
use Rattle.asn1_ldap.specs.declared.ldap_message_protocol_op.LdapMessageProtocolOp.{LdapMessageProtocolOp}
use Rattle.asn1_ldap.specs.declared.ldap_message_protocol_op.LdapMessageProtocolOp.TheVariants as op
use Rattle.asn1_ldap_text.specs.Binds.{bind_request_text, bind_response_text}
use Rattle.asn1_ldap_text.specs.Changes.{add_request_text, compare_request_text, modify_dn_request_text, modify_request_text}
use Rattle.asn1_ldap_text.specs.Extended.{extended_request_text, extended_response_text, intermediate_response_text}
use Rattle.asn1_ldap_text.specs.Results.{response_text}
use Rattle.asn1_ldap_text.specs.Searches.{entry_text, reference_text, search_request_text}
use Rattle.asn1_ldap_text.specs.Strings.{named}
use Rattle.asn1_values.specs.Text.{integer_text}

-- a request to abandon the operation of another message
abbrev pub abandon_text : ℤ → List ℕ
abandon_text message_id = codes "abandon request: message " ++ integer_text message_id

-- an operation
abbrev pub operation_text : LdapMessageProtocolOp → List ℕ
operation_text (op.BindRequest request) = bind_request_text request
operation_text (op.BindResponse response) = bind_response_text response
operation_text (op.UnbindRequest nothing) = codes "unbind request"
operation_text (op.SearchRequest request) = search_request_text request
operation_text (op.SearchResEntry entry) = entry_text entry
operation_text (op.SearchResDone done) = response_text (codes "search done: ") done.value
operation_text (op.SearchResRef uris) = reference_text uris.value.items
operation_text (op.ModifyRequest request) = modify_request_text request
operation_text (op.ModifyResponse response) = response_text (codes "modify response: ") response.value
operation_text (op.AddRequest request) = add_request_text request
operation_text (op.AddResponse response) = response_text (codes "add response: ") response.value
operation_text (op.DelRequest name) = named (codes "delete request: name ") name.value
operation_text (op.DelResponse response) = response_text (codes "delete response: ") response.value
operation_text (op.ModDnRequest request) = modify_dn_request_text request
operation_text (op.ModDnResponse response) = response_text (codes "modify DN response: ") response.value
operation_text (op.CompareRequest request) = compare_request_text request
operation_text (op.CompareResponse response) = response_text (codes "compare response: ") response.value
operation_text (op.AbandonRequest number) = abandon_text number.value
operation_text (op.ExtendedReq request) = extended_request_text request
operation_text (op.ExtendedResp response) = extended_response_text response
operation_text (op.IntermediateResponse response) = intermediate_response_text response
