pub mod ListLemmas
pub mod KindLemmas
pub mod LineLemmas
pub mod CriticalLemmas
pub mod TargetLemmas
pub mod KeepLemmas
pub mod SiteLemmas
pub mod LawLemmas
