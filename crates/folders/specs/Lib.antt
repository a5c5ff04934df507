pub mod Validity
pub mod FolderLists
pub mod FolderValidity
pub mod FolderMeaning
pub mod FolderReading
