pub mod AddressLemmas
pub mod CallLemmas
pub mod EachLemmas
pub mod NumberLemmas
pub mod RestLemmas
pub mod RefusedLemmas
pub mod TaskLemmas
pub mod WholeLemmas
