pub mod TypesInside
