pub mod Built
pub mod Edges
pub mod Exact
pub mod Whole
pub mod Rest
pub mod Found
