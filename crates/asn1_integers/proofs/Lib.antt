pub mod Digits
pub mod LowNumbers
pub mod Signs
pub mod Texts
