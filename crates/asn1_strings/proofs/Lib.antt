pub mod AsciiTexts
pub mod BitOctets
pub mod ClearedBits
pub mod DottedTexts
pub mod OneBits
pub mod TrailingZeros
