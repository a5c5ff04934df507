mod FirstTags
mod Groups
mod SchemaTables
