pub mod FirstTags
pub mod RecordLists
pub mod SameRecords
pub mod SameUpToOrder
pub mod TagSets
pub mod WrittenAlike
pub mod DistinctSets
