pub mod ListLemmas
pub mod GraphLemmas
pub mod SettledLemmas
pub mod RowLemmas
pub mod InvariantLemmas
pub mod TheoremLemmas
