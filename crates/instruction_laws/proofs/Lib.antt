pub mod Moment
pub mod ArithmeticLemmas
pub mod MoveLemmas
pub mod ExecutedLemmas
pub mod CaseLemmas
pub mod OperandLemmas
pub mod LoadLemmas
pub mod LawLemmas
