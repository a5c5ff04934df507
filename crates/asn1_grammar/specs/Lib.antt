pub mod Nests
pub mod Settings
