pub mod OperandLemmas
pub mod TableLemmas
pub mod FormLemmas
