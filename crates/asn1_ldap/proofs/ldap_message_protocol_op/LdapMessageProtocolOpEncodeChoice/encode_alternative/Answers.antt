use Rattle.asn1_ldap.proofs.ldap_message_protocol_op.LdapMessageProtocolOpEncodeChoice.encode_alternative.Goals as goal

pub returns-in-BindRequest : goal.returns-in-BindRequest
returns-in-BindRequest g c = rw c.in-BindRequest.is c.encode.ensures

pub returns-in-BindResponse : goal.returns-in-BindResponse
returns-in-BindResponse g c = rw c.in-BindResponse.is c.encode-in-BindResponse.ensures

pub returns-in-UnbindRequest : goal.returns-in-UnbindRequest
returns-in-UnbindRequest g c = rw c.in-UnbindRequest.is c.encode-in-UnbindRequest.ensures

pub returns-in-SearchRequest : goal.returns-in-SearchRequest
returns-in-SearchRequest g c = rw c.in-SearchRequest.is c.encode-in-SearchRequest.ensures

pub returns-in-SearchResEntry : goal.returns-in-SearchResEntry
returns-in-SearchResEntry g c = rw c.in-SearchResEntry.is c.encode-in-SearchResEntry.ensures

pub returns-in-SearchResDone : goal.returns-in-SearchResDone
returns-in-SearchResDone g c = rw c.in-SearchResDone.is c.encode-in-SearchResDone.ensures

pub returns-in-SearchResRef : goal.returns-in-SearchResRef
returns-in-SearchResRef g c = rw c.in-SearchResRef.is c.encode-in-SearchResRef.ensures

pub returns-in-ModifyRequest : goal.returns-in-ModifyRequest
returns-in-ModifyRequest g c = rw c.in-ModifyRequest.is c.encode-in-ModifyRequest.ensures

pub returns-in-ModifyResponse : goal.returns-in-ModifyResponse
returns-in-ModifyResponse g c = rw c.in-ModifyResponse.is c.encode-in-ModifyResponse.ensures

pub returns-in-AddRequest : goal.returns-in-AddRequest
returns-in-AddRequest g c = rw c.in-AddRequest.is c.encode-in-AddRequest.ensures

pub returns-in-AddResponse : goal.returns-in-AddResponse
returns-in-AddResponse g c = rw c.in-AddResponse.is c.encode-in-AddResponse.ensures

pub returns-in-DelRequest : goal.returns-in-DelRequest
returns-in-DelRequest g c = rw c.in-DelRequest.is c.encode-in-DelRequest.ensures

pub returns-in-DelResponse : goal.returns-in-DelResponse
returns-in-DelResponse g c = rw c.in-DelResponse.is c.encode-in-DelResponse.ensures

pub returns-in-ModDnRequest : goal.returns-in-ModDnRequest
returns-in-ModDnRequest g c = rw c.in-ModDnRequest.is c.encode-in-ModDnRequest.ensures

pub returns-in-ModDnResponse : goal.returns-in-ModDnResponse
returns-in-ModDnResponse g c = rw c.in-ModDnResponse.is c.encode-in-ModDnResponse.ensures

pub returns-in-CompareRequest : goal.returns-in-CompareRequest
returns-in-CompareRequest g c = rw c.in-CompareRequest.is c.encode-in-CompareRequest.ensures

pub returns-in-CompareResponse : goal.returns-in-CompareResponse
returns-in-CompareResponse g c = rw c.in-CompareResponse.is c.encode-in-CompareResponse.ensures

pub returns-in-AbandonRequest : goal.returns-in-AbandonRequest
returns-in-AbandonRequest g c = rw c.in-AbandonRequest.is c.encode-in-AbandonRequest.ensures

pub returns-in-ExtendedReq : goal.returns-in-ExtendedReq
returns-in-ExtendedReq g c = rw c.in-ExtendedReq.is c.encode-in-ExtendedReq.ensures

pub returns-in-ExtendedResp : goal.returns-in-ExtendedResp
returns-in-ExtendedResp g c = rw c.in-ExtendedResp.is c.encode-in-ExtendedResp.ensures

pub returns-in-IntermediateResponse : goal.returns-in-IntermediateResponse
returns-in-IntermediateResponse g c = rw c.in-IntermediateResponse.is c.encode-in-IntermediateResponse.ensures
