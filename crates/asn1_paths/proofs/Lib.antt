pub mod PathReaders
