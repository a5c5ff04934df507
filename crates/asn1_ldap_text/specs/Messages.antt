-- Messages (RFC 4511, 4.1.1).
use Rattle.std.specs.Prelude.{ℕ, ℤ, List, ◌++◌, codes}
use Rattle.asn1_ldap.specs.declared.ldap_message.LdapMessage.{LdapMessage}
use Rattle.asn1_ldap_text.specs.Controls.{controls_lines}
use Rattle.asn1_ldap_text.specs.Operations.{operation_text}
use Rattle.asn1_values.specs.Text.{integer_text}

-- the number of a message
abbrev pub number_text : ℤ → List ℕ
number_text message_id = integer_text message_id ++ codes " "

-- the first line: the number, and the operation
abbrev pub message_line : LdapMessage → List ℕ
message_line m = number_text m.message_id ++ (operation_text m.protocol_op ++ codes "\n")

-- the lines of a message
abbrev pub message_lines : LdapMessage → List ℕ
message_lines m = message_line m ++ controls_lines m.controls
