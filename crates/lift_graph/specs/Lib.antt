pub mod Rows
pub mod Graph
pub mod Links
pub mod Sites
pub mod Heads
pub mod Edges
pub mod Search
pub mod Components
