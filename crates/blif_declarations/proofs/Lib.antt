pub mod RowStarts
pub mod LineWalk
pub mod NextLaws
