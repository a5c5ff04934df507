pub mod Decimal
pub mod Integer
pub mod Numbers
pub mod Text
