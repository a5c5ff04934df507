pub mod Found
pub mod Indexed
pub mod NamedTwice
pub mod NothingWrong
pub mod Resolved
pub mod Searches
