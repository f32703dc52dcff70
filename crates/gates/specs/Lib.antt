pub mod Gate
pub mod Forms
pub mod Between
