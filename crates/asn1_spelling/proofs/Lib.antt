pub mod ChoicesAlike
pub mod EqualCases
pub mod GroupsAlike
