pub mod NodeLemmas
pub mod EntryLemmas
pub mod EntailLemmas
pub mod ReturnLemmas
pub mod MachineLemmas
