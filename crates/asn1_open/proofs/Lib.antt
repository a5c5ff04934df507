pub mod OpenEquality
pub mod OpenLaws
pub mod OpenValues
