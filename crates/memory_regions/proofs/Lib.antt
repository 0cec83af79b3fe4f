pub mod SummandLemmas
