use Rattle.std.specs.Prelude.{Some, codes}
use Rattle.asn1_model.specs.ConstraintSets.{unconstrained}
use Rattle.asn1_model.specs.Tags.{universal}
use Rattle.asn1_samples.specs.NodeComponents.{node_agrees}
use Rattle.asn1_samples.proofs.node.node_has_its_records.Goals as goal

pub returns : goal.returns
returns c = node_agrees.records c.args.node.now (universal 16) unconstrained (Some (codes "Node"))
