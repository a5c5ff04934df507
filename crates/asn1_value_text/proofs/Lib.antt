pub mod TextEncoders
