pub mod MemoryLemmas
pub mod StepLemmas
