pub mod Held
pub mod Ordered
pub mod Parts
pub mod Views
