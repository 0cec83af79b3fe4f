pub mod Ascending
pub mod Table
pub mod Targets
