pub mod Covers
pub mod Walks
pub mod Heads
pub mod Told
pub mod Used
pub mod Whole
pub mod Answers
pub mod Summary
