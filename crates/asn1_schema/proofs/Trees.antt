-- The equations of trees of tags, for the line `tactic` at the head of a crate that has a CHOICE or a type with a group.
pub use Rattle.asn1_tags.proofs.Leaves.{tree_shapes}
