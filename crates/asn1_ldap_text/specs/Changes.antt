-- Changes of entries, and comparisons (RFC 4511, 4.6 to 4.10).
use Rattle.std.specs.Prelude.{ℕ, Bool, List, [], ◌++◌, None, Option, Some, codes, if◌then◌else◌}
use Rattle.std.specs.List.{flat_map}
use Rattle.asn1_components.specs.Enumerations.{name_of}
use Rattle.asn1_ldap.specs.contracts.modify_request_changes_element_operation.ModifyRequestChangesElementOperationEnumeratedItems.TheImpl.{ghosts as items}
use Rattle.asn1_ldap.specs.contracts.modify_request_changes_element_operation.ModifyRequestChangesElementOperationPartialEq.TheImpl.{ghosts as equality}
use Rattle.asn1_ldap.specs.declared.add_request.AddRequest.{AddRequest}
use Rattle.asn1_ldap.specs.declared.compare_request.CompareRequest.{CompareRequest}
use Rattle.asn1_ldap.specs.declared.modify_dn_request.ModifyDnRequest.{ModifyDnRequest}
use Rattle.asn1_ldap.specs.declared.modify_request.ModifyRequest.{ModifyRequest}
use Rattle.asn1_ldap.specs.declared.modify_request_changes_element.ModifyRequestChangesElement.{ModifyRequestChangesElement}
use Rattle.asn1_ldap.specs.declared.modify_request_changes_element_operation.ModifyRequestChangesElementOperation.{ModifyRequestChangesElementOperation}
use Rattle.asn1_ldap_text.specs.Attributes.{after_comma, attribute_text}
use Rattle.asn1_ldap_text.specs.Strings.{named, word}
use Rattle.asn1_ldap.specs.declared.attribute_value_assertion.AttributeValueAssertion.{AttributeValueAssertion}

-- the name of what is done with an attribute
abbrev pub change_name : ModifyRequestChangesElementOperation → List ℕ
change_name operation = name_of equality.eq items.enumeration operation

-- a change after a comma
abbrev pub change_text : ModifyRequestChangesElement → List ℕ
change_text c = codes ", " ++ (change_name c.operation ++ (codes " " ++ attribute_text c.modification))

-- a request to change attributes of an entry
abbrev pub modify_request_text : ModifyRequest → List ℕ
modify_request_text r = named (codes "modify request: name ") r.object ++ flat_map change_text r.changes.items

-- a request to add an entry
abbrev pub add_request_text : AddRequest → List ℕ
add_request_text r = named (codes "add request: name ") r.entry ++ flat_map after_comma r.attributes.items

-- what becomes of the values of the old name
abbrev pub old_rdn_text : Bool → List ℕ
old_rdn_text is_deleted = if is_deleted then codes ", old RDN deleted" else codes ", old RDN kept"

-- the entry below which the entry moves, if it moves
abbrev pub superior_text : Option (List ℕ) → List ℕ
superior_text (Some name) = named (codes ", new superior ") name
superior_text None = []

-- the new name of an entry
abbrev pub new_name_text : ModifyDnRequest → List ℕ
new_name_text r = named (codes ", new RDN ") r.newrdn ++ (old_rdn_text r.deleteoldrdn ++ superior_text r.new_superior)

-- a request to change the name of an entry
abbrev pub modify_dn_request_text : ModifyDnRequest → List ℕ
modify_dn_request_text r = named (codes "modify DN request: name ") r.entry ++ new_name_text r

-- the attribute and the value that are compared
abbrev pub compared_text : AttributeValueAssertion → List ℕ
compared_text a = codes ", " ++ (word a.attribute_desc ++ named (codes " ") a.assertion_value)

-- a request to compare a value
abbrev pub compare_request_text : CompareRequest → List ℕ
compare_request_text r = named (codes "compare request: name ") r.entry ++ compared_text r.ava
