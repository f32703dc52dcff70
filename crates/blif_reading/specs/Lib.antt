pub mod TextModel
pub mod Lookup
pub mod Build
pub mod Accepts
pub mod Read
pub mod Between
