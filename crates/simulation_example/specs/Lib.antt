pub mod Machine
pub mod Predicate
pub mod Example
