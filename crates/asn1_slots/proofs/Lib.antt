pub mod FilledSlots
pub mod Layouts
pub mod NamedErrors
pub mod ReadByIndex
pub mod ReadExactly
pub mod ReadChoices
pub mod ReadInSets
pub mod WrittenAlike
pub mod DistinctSets
mod TreesWithTags
pub mod SetItems
pub mod FilledGroups
mod ComingExactly
