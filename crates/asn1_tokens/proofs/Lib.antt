pub mod ItemLemmas
pub mod SkipSteps
pub mod SymbolLemmas
pub mod TokenLemmas
