pub mod WrittenModel
pub mod Names
pub mod Text
