pub mod CountRows
pub mod Judging
pub mod ReadNetlists
pub mod Reporting
pub mod Tally
pub mod Reports
pub mod Summary
