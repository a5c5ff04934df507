pub mod BoundComparison
pub mod Count
pub mod Ends
pub mod Intersection
pub mod Members
pub mod Octets
pub mod Text
