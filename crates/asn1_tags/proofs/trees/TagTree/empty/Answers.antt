use Rattle.asn1_tags.proofs.Leaves.{shape-Choice}
use Rattle.asn1_tags.proofs.trees.TagTree.empty.Goals as goal

pub returns : goal.returns
returns c = shape-Choice _
