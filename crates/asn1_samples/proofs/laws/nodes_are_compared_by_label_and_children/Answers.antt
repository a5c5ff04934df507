use Rattle.std.proofs.Common.{◌∙◌}
use Rattle.asn1_samples.proofs.laws.nodes_are_compared_by_label_and_children.Goals as goal
use Rattle.asn1_samples.specs.contracts.node.NodePartialEq.TheImpl.Laws.{is}

-- one level of the equality of a type that holds itself
pub returns : goal.returns
returns c = c.eq.ensures ∙ is c.args.a.now c.args.b.now
