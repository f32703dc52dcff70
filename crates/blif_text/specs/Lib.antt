pub mod Lines
pub mod Keywords
pub mod Statements
pub mod Decls
pub mod Ended
pub mod Between
