pub mod Order
pub mod Sorted
pub mod Between
