pub mod FormedLemmas
pub mod KnownLemmas
pub mod TellLemmas
pub mod CaseLemmas
