pub mod ListLemmas
pub mod AddressLemmas
pub mod NumberLemmas
pub mod TestLemmas
pub mod LoadLemmas
