pub mod Calls
pub mod Target
