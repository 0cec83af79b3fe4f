pub mod LevelLemmas
pub mod GrowLemmas
pub mod StableLemmas
pub mod FoundLemmas
pub mod LeftLemmas
pub mod CommuteLemmas
pub mod BelowLemmas
pub mod SameLemmas
