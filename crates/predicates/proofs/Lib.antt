pub mod AmongLemmas
pub mod BoundLemmas
pub mod EntryLemmas
pub mod TermLemmas
pub mod PlaceLemmas
pub mod CellLemmas
pub mod DecidedLemmas
pub mod WeakenLemmas
