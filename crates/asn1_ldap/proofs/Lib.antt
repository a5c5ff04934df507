pub mod FilterTags
