pub mod Meaning
pub mod Known
pub mod Visit
pub mod Round
pub mod Settled
pub mod Fixed
