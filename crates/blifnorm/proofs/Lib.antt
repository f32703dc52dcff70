pub mod Printing
pub mod ReadForms
pub mod Summary
