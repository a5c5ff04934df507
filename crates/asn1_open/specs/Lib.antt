pub mod OpenAlternatives
