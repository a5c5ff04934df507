pub mod Refusals
pub mod TextLaws
pub mod Texts
