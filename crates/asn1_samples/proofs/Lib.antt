pub mod ChosenRecords
mod ComingParts
pub mod NodeHeights
pub mod NodeLaws
pub mod NodeValidity
mod ShapeTable
