pub mod Entering
pub mod Tabling
pub mod Refusing
pub mod Defining
pub mod DefiningGates
pub mod Walking
pub mod EntryLaws
