pub mod Rows
pub mod Into
pub mod Ran
pub mod Between
