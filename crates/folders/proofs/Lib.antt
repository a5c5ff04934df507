pub mod FolderTags
