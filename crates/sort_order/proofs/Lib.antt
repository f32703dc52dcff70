pub mod Walk
pub mod WalkEnds
pub mod Ordering
pub mod Rings
pub mod Sorting
pub mod Keeps
pub mod Summary
