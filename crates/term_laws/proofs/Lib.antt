pub mod FitLemmas
pub mod SumValueLemmas
pub mod AtomValueLemmas
pub mod LooseLemmas
pub mod CoefficientLemmas
pub mod MentionLemmas
pub mod LawLemmas
pub mod SymbolLemmas
