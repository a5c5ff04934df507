pub mod ExprTags
pub mod CategoryTags
pub mod ChainTags
