pub mod NestedAlternatives
