pub mod Lines
pub mod HeadTests
pub mod Found
pub mod SheetTexts
pub mod Cases
pub mod Summary
