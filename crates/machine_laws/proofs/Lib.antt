pub mod StoreLemmas
pub mod StateLemmas
pub mod StepLawLemmas
pub mod PreserveLemmas
pub mod FlowLemmas
pub mod NamedLemmas
