pub mod Validity
pub mod FilterLists
pub mod FilterValidity
pub mod FilterMeaning
pub mod FilterReading
