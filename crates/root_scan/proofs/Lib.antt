pub mod WordLemmas
pub mod ChunkLemmas
pub mod BitLemmas
pub mod MaskLemmas
pub mod RootLemmas
