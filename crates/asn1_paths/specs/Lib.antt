pub mod PathReader
