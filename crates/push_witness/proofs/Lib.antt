pub mod GraphLemmas
pub mod WitnessLemmas
