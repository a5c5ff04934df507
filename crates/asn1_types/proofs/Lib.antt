pub mod Positions
pub mod WrittenAlike
pub mod DistinctSets
