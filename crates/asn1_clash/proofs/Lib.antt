pub mod Flat
pub mod Occurrences
pub mod Runs
pub mod Summaries
