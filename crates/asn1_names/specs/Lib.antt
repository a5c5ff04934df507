pub mod Accepted
pub mod Definitions
pub mod Distinct
pub mod Imports
pub mod Index
pub mod Nearest
pub mod References
