pub mod LowBitsLemmas
pub mod ComparisonLemmas
pub mod ArithmeticLemmas
