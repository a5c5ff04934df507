pub mod ValidNames
