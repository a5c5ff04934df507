pub mod Characters
pub mod Items
pub mod Positions
pub mod Refusals
pub mod Skipped
pub mod Tokens
pub mod Words
