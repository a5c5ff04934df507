pub mod Tags
pub mod Trees
pub mod Walks
pub mod Order
pub mod OrderLaws
pub mod Names
pub mod TagTables
pub mod Derives
