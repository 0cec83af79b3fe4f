pub mod LowBitsLemmas
pub mod IntegerLemmas
pub mod ShiftLemmas
pub mod WideLemmas
