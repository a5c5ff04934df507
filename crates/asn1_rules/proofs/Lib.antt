mod Appending
pub mod ItemFronts
pub mod Outputs
pub mod PiecesRead
pub mod Readings
pub mod UnreadBytes
pub mod Steps
pub mod Streams
pub mod CanonicalFronts
mod Spellings
