pub mod WithinLemmas
pub mod LawLemmas
pub mod WeakenLemmas
pub mod GreatestLemmas
