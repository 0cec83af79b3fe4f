pub mod CallLemmas
pub mod LeftLemmas
pub mod SymbolLemmas
pub mod CaseLemmas
pub mod JumpLemmas
