pub mod PartLemmas
pub mod LookupLemmas
