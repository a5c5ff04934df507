pub mod SetOf
