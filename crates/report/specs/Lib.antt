pub mod Marks
pub mod Coverage
pub mod Counts
pub mod Text
