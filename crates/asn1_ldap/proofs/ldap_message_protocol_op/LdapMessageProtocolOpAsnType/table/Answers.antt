use Rattle.std.proofs.Common.{refl}
use Rattle.asn1_schema.proofs.Trees.{tree_shapes}
use Rattle.asn1_ldap.proofs.ldap_message_protocol_op.LdapMessageProtocolOpAsnType.table.Goals as goal

-- the trees are those of the alternatives
pub returns-clause-tree : goal.returns-clause-tree
returns-clause-tree c = λ tag. rw c.choice.ensures.tree (simp tree_shapes refl)
