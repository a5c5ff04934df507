mod Begun
mod CutHeaders
mod Inside
mod Ends
mod FlatBits
mod FlatOctets
pub mod Headers
mod LooseOctets
pub mod NormalForms
mod NormalPieces
mod Joined
mod Snoc
mod Splits
mod Suffixes
mod Searching
mod Steps
mod Walking
