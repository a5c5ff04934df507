pub mod Ends
pub mod Headers
pub mod LooseContents
pub mod Pieces
pub mod Progress
pub mod Segments
pub mod Spellings
pub mod Walks
