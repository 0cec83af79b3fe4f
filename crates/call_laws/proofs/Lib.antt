pub mod BackLemmas
pub mod CallLemmas
pub mod TargetLemmas
