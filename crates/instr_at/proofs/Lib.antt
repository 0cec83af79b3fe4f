pub mod AtLemmas
