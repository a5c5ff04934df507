pub mod InnerSubtype
pub mod ConstraintKind
pub mod Admitted
pub mod BorrowedBounds
pub mod Sets
pub mod ConstraintTables
-- of the crate below: the words on bounds
pub use Rattle.asn1_ranges.specs.BoundComparison
pub use Rattle.asn1_ranges.specs.Count
pub use Rattle.asn1_ranges.specs.Ends
pub use Rattle.asn1_ranges.specs.Intersection
pub use Rattle.asn1_ranges.specs.Members
pub use Rattle.asn1_ranges.specs.Octets
pub use Rattle.asn1_ranges.specs.Text
