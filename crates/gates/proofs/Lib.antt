pub mod Forms
pub mod Decode
pub mod Bits
pub mod Plain
