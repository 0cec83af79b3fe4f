pub mod Classes
pub mod World
pub mod Laws
