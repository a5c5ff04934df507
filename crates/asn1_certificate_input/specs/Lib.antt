pub mod Alphabets
pub mod Answers
pub mod Certificates
pub mod Departures
pub mod Inputs
pub mod Positions
pub mod Refused
pub mod Shown
