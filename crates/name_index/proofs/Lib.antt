pub mod HashLaws
pub mod TreeLaws
pub mod EntryLaws
pub mod IndexLaws
