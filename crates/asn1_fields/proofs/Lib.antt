pub mod SharedTags
pub mod ClashSearches
pub mod Clashes
mod FieldComparison
pub mod CanonicalTest
pub mod RequiredFields
pub mod Rearranged
pub mod AlikeTables
