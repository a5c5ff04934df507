pub mod Bytes
pub mod Form
pub mod Format
pub mod Cuts
pub mod Defaults
