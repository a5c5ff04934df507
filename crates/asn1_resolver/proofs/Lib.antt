pub mod MeantDefinitions
