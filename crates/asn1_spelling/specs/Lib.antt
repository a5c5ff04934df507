pub mod Cases
pub mod Choices
