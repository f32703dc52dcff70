-- Definitions that contracts between the crates and proofs use, and no promise reaches.
pub mod Rows
pub mod Declarations
