pub mod AlphabetLaws
pub mod KindLaws
pub mod SetLaws
