-- Definitions that contracts between the crates and proofs use, and no promise reaches.
pub mod Rows
pub mod PlaceRows
pub mod Places
pub mod Scan
pub mod PlacedStatements
pub mod Walk
pub mod Blocks
