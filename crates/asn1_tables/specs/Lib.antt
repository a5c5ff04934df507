pub mod OpenValues
