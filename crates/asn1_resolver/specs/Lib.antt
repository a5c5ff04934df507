pub mod Accepted
pub mod Indices
pub mod References
pub mod TypePlaces
