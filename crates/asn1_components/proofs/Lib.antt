pub mod DistinctFollowers
pub mod TableOrder
pub mod ContentsOfValues
pub mod TableLengths
mod AlternativeRows
mod Variants
pub mod LabelSearches
pub mod LabelsOfValues
pub mod EnumerationFacts
pub mod ItemSearches
pub mod ListSearches
pub mod NumbersInTables
pub mod PartsApart
pub mod WrittenAlike
pub mod DistinctSets
