pub mod TrailingBytes
mod CutIdentifiers
pub mod Cuts
mod Comparing
mod Complements
pub mod ElementFronts
pub mod ElementsRead
pub mod Encodings
pub mod Found
mod Measuring
mod Narrow
pub mod OneContents
pub mod OneElement
mod ReadingArcs
mod Septets
pub mod SomeEncoding
mod WritingArcs
pub mod Canonical
pub mod DistinctSets
pub mod Marks
pub mod NotBoth
pub mod OneEncoding
pub mod RecordElements
pub mod SetOrders
mod SomeDer
pub mod SomeOrder
pub mod Sorting
mod FaultPositions
mod Reached
