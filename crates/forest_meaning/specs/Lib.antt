pub mod Separate
pub mod Holds
pub mod Assumed
