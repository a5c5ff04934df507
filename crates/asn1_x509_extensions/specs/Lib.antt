pub mod OpenNames
