pub mod Samples
pub mod PowerUp
