pub mod SizeLemmas
pub mod OrderedLemmas
pub mod NeededLemmas
