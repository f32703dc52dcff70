pub mod Refusing
pub mod Lending
pub mod Found
pub mod Naming
pub mod Ending
pub mod Leaving
pub mod Summary
pub mod CellsRead
