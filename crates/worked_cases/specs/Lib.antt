pub mod Cases
pub mod Starts
pub mod Checks
pub mod Stored
