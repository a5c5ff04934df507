pub mod Checking
pub mod Converting
pub mod Digits
pub mod InPieces
pub mod Lines
mod Reading
pub mod Running
pub mod SomeType
