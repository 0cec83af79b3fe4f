pub mod Whole
pub mod Well
pub mod Tasks
