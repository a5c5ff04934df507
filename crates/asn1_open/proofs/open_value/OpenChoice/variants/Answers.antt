use Rattle.std.proofs.Common.{refl}
use Rattle.asn1_tags.proofs.Leaves.{tree_shapes}
use Rattle.asn1_open.proofs.open_value.OpenChoice.variants.Goals as goal

-- the trees of a CHOICE inside are those of its alternatives
pub returns : goal.returns
returns c = simp tree_shapes refl
