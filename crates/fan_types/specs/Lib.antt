pub mod Checks
pub mod Conversions
pub mod OpenTypes
pub mod Refusals
