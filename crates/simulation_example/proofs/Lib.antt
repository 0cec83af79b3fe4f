pub mod ListLemmas
pub mod CaseLemmas
pub mod LoopLemmas
pub mod SiteLemmas
pub mod LawLemmas
