pub mod Flat
pub mod Occurrences
pub mod Views
