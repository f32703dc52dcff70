pub mod Sheet
pub mod Between
