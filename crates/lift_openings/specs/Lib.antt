pub mod Lifted
pub mod Copies
