pub mod UnrolledWriting
