pub mod Cells
pub mod Remap
