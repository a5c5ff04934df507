pub mod ElementForms
pub mod Decoder
pub mod UnreadBytes
pub mod Strings
