use Rattle.asn1_ldap_text.proofs.operations.push_operation.Goals as goal

pub returns-in-ModifyResponse : goal.returns-in-ModifyResponse
returns-in-ModifyResponse c = rw c.in-ModifyResponse.is (rw c.get-in-ModifyResponse.ensures at c.push_response-in-ModifyResponse.ensures)

pub returns-in-DelResponse : goal.returns-in-DelResponse
returns-in-DelResponse c = rw c.in-DelResponse.is (rw c.get-in-DelResponse.ensures at c.push_response-in-DelResponse.ensures)

pub returns-in-ModDnResponse : goal.returns-in-ModDnResponse
returns-in-ModDnResponse c = rw c.in-ModDnResponse.is (rw c.get-in-ModDnResponse.ensures at c.push_response-in-ModDnResponse.ensures)

pub returns-in-CompareResponse : goal.returns-in-CompareResponse
returns-in-CompareResponse c = rw c.in-CompareResponse.is (rw c.get-in-CompareResponse.ensures at c.push_response-in-CompareResponse.ensures)

pub returns-in-DelRequest : goal.returns-in-DelRequest
returns-in-DelRequest c = rw c.in-DelRequest.is (rw (c.as_slice-in-DelRequest.ensures.units, c.get-in-DelRequest.ensures) at c.push_named.ensures)
