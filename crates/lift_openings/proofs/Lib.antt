pub mod CopyLemmas
pub mod FoundLemmas
pub mod GraphLemmas
pub mod ResolvedLemmas
pub mod SettledLemmas
pub mod StillLemmas
