pub mod PieceLemmas
pub mod NumberLemmas
pub mod MergeLemmas
pub mod SumLemmas
pub mod AtomLemmas
pub mod OffsetLemmas
pub mod AddressLemmas
