pub mod Model
pub mod WellFormed
pub mod Samples
