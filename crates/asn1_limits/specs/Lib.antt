pub mod CharacterRanges
pub mod FacetLaws
pub mod Facets
pub mod LimitTables
pub mod LimitedTypes
