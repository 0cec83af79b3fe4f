pub mod NumberLemmas
pub mod SiteLemmas
pub mod FoundLemmas
pub mod CaseLemmas
pub mod EdgeLemmas
pub mod TagLemmas
pub mod FewLemmas
