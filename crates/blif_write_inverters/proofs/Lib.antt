pub mod Marking
pub mod Inverters
