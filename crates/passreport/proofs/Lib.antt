pub mod Answering
pub mod Summary
