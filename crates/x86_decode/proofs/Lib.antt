pub mod ByteLemmas
pub mod StageLemmas
pub mod RowLemmas
pub mod EncodingLemmas
pub mod DecodeLemmas
