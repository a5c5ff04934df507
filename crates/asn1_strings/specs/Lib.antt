pub mod Alphabets
pub mod BitLists
pub mod Bits
pub mod Dotted
pub mod Refusals
pub mod Shown
