mod Fours
pub mod Fronts
mod GroupTags
mod Headers
mod HeaderBytes
pub mod Items
pub mod OneBits
mod Lists
mod Octets
mod OctetsWritten
mod Twos
mod Writing
mod SizedItems
pub mod DecodeStates
mod PackedBits
pub mod ReadExactly
