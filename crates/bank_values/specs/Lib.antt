pub mod Numbered
pub mod Codes
pub mod Falls
pub mod ReadBack
pub mod Weaken
pub mod Same
pub use Rattle.term_bank.specs.Terms
