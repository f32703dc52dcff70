pub mod FormLines
pub mod Masks
pub mod NamesDiffer
pub mod Blocks
pub mod Writing
pub mod WrittenOnce
pub mod WrittenFormed
pub mod Summary
