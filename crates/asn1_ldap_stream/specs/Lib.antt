pub mod Beginnings
pub mod Elements
pub mod Failures
pub mod Octets
pub mod Showing
