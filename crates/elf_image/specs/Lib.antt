pub mod Constants
pub mod Segments
pub mod Image
pub mod At
pub mod File
pub mod Refusal
pub mod Loaded
