pub mod Counting
pub mod Intersecting
pub mod IntersectionLaws
pub mod BeyondI128
