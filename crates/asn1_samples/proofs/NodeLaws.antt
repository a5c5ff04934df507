-- The facts for the reader of a node.
use Rattle.std.proofs.Common.{◌≡◌, true, rules, ◌∙◌}
use Rattle.std.specs.Cmp.Lexicographic.{pointwise}
use Rattle.std.specs.Option.{option_eq}
use Rattle.std.specs.String.{string_eq}
use Rattle.std.proofs.lemmas.Bool.{and_from}
use Rattle.asn1_model.specs.Meaning.{IsWellTagged}
use Rattle.asn1_samples.specs.NodeComponents.{node_meaning}
use Rattle.asn1_samples.specs.contracts.node.NodePartialEq.TheImpl.{ghosts}
use Rattle.asn1_samples.specs.contracts.node.NodePartialEq.TheImpl.Laws.{is}
use Rattle.asn1_samples.specs.declared.node.Node.{Node, out-Node}

pub node_can : IsWellTagged node_meaning
node_can = search rules

-- nodes with equal labels and equal children are equal
pub same_nodes : (w v : Node) → option_eq string_eq (out-Node w).label (out-Node v).label ≡ true → pointwise ghosts.eq (out-Node w).children.items (out-Node v).children.items ≡ true → ghosts.eq w v ≡ true
same_nodes w v label children = is w v ∙ and_from _ _ label children
