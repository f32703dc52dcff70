pub mod Resolving
pub mod OneGate
pub mod Placing
