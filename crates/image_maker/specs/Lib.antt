pub mod Executable
pub mod Functions
pub mod Made
