pub mod CanonicalOrder
pub mod DistinctTags
pub mod FieldViews
pub mod FieldOrder
pub mod FieldLists
