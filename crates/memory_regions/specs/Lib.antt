pub mod Relate
pub mod Context
