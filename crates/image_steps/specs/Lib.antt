pub mod Shaped
pub mod Falls
pub mod Laws
pub mod Meant
pub mod Tells
pub mod Walks
pub mod WalkLaws
pub mod FixedLaws
