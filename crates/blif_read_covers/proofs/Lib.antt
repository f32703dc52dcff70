pub mod LineLaws
pub mod CoverLaws
pub mod PassLaws
