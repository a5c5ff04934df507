pub mod DistinctTags
pub mod Errors
pub mod FirstTags
pub mod Tables
