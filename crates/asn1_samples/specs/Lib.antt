pub mod BadgeParts
pub mod ComponentNames
pub mod NodeComponents
pub mod PersonnelRecords
pub mod SampleRecords
