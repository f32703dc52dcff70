pub mod Net
pub mod Clock
pub mod Settle
pub mod Renumber
pub mod Sizes
pub mod Record
pub mod Cells
pub mod Between
