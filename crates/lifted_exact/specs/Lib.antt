pub mod Looked
pub mod Laws
