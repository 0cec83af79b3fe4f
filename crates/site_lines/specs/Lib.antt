pub mod Ordered
pub mod Critical
pub mod Subject
pub mod Pairs
pub mod Saved
pub mod Kinds
pub mod Lines
