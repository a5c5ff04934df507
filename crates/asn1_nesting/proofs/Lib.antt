pub mod ListsRead
mod OpenAndClosed
mod OpenAndClosedSequences
