pub mod Into
pub mod Between
