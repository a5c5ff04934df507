pub mod SequencesAndSets
