pub mod TypesInside
pub mod UniversalTags
