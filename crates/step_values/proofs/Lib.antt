pub mod TermLemmas
pub mod NameLemmas
pub mod MemoryLemmas
pub mod BoundLemmas
