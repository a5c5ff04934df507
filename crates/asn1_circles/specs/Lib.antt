pub mod KnotMeanings
pub mod KnotReadings
pub mod Knots
pub mod Readers
pub mod Words
