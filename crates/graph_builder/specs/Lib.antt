pub mod Lines
pub mod Partial
pub mod Levels
pub mod Follow
pub mod Order
pub mod Limits
pub mod Extend
pub mod Building
