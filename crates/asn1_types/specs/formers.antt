pub mod set_of
