pub mod Signal
pub mod Cell
pub mod Between
