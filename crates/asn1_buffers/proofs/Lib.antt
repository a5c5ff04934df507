pub mod EncodersOverBuffers
mod WholeValues
