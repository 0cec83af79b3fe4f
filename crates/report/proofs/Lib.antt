pub mod LoopLemmas
pub mod MarkLemmas
pub mod CountLemmas
