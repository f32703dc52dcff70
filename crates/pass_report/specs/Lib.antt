pub mod Report
pub mod Into
pub mod Counted
pub mod Between
