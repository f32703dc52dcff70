pub mod Handing
pub mod Answered
pub mod Summary
