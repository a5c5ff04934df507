mod ParcelLaws
pub mod ValidValues
