pub mod SizeLaws
pub mod Counting
