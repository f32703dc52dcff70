pub mod Conditions
pub mod Trip
pub mod Witness
pub mod Between
