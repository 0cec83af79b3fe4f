pub mod Limits
pub mod Parts
pub mod Order
pub mod WellFormed
pub mod Lookup
