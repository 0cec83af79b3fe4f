pub mod WriteLemmas
pub mod TakeLemmas
pub mod FieldLemmas
pub mod RunLemmas
pub mod TextLemmas
