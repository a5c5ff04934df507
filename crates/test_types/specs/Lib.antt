pub mod ChainExample
pub mod ChoiceExamples
pub mod ComponentExamples
pub mod EnumerationExamples
pub mod Journeys
pub mod RecordExamples
pub mod TypeExamples
