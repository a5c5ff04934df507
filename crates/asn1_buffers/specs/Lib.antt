pub mod Buffers
pub mod Encoder
pub mod Format
pub mod Unlabelled
pub mod CompleteInput
