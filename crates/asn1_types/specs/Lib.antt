pub mod AnyStrings
pub mod Multisets
pub mod MultisetLaws
pub mod Kinds
pub mod formers
pub mod Words
-- of the crate below: what a type means
pub use Rattle.asn1_model.specs.Composites
pub use Rattle.asn1_model.specs.ConstraintSets
pub use Rattle.asn1_model.specs.Meaning
pub use Rattle.asn1_model.specs.Orders
pub use Rattle.asn1_model.specs.Records
pub use Rattle.asn1_model.specs.RecordTables
pub use Rattle.asn1_model.specs.Tags
