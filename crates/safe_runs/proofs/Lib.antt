pub mod WordLemmas
pub mod LawLemmas
pub mod FormLemmas
