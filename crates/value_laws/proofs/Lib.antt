pub mod Ground
pub mod Scene
pub mod MeansLemmas
pub mod ResultLemmas
pub mod FlagLemmas
pub mod BoundLemmas
pub mod TableLemmas
