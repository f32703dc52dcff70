-- Definitions that contracts between the crates and proofs use, and no promise reaches.
pub mod Gate
pub mod Forms
pub mod Decode
