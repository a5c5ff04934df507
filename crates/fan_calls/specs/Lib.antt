pub mod Depths
pub mod Results
pub mod Statuses
pub mod Walks
