pub mod InsideItself
pub mod OpenChoices
pub mod SomeDepth
