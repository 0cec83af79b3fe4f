pub mod TermLemmas
pub mod NameLemmas
pub mod WidthLemmas
pub mod BoundLemmas
pub mod ListLemmas
pub mod ResultLemmas
pub mod StoreLemmas
