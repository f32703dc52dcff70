pub mod Lines
pub mod FormLines
