pub mod Handed
pub mod Between
